-- The evaluations that a value of a function that is kept takes, at a point moved back from its origin.
use Rattle.std.proofs.Common.{◌≡◌, ℕ, zero, suc, ◌+◌, ◌≤◌, List, [], ◌∷◌, ◌++◌, length, true, false, Option, Some, None, IsSome, IsTrue, ℤ, refl, sym, ap, ◌∙◌, subst, inl, inr}
use Rattle.std.specs.Prelude.{map, slice_get, take, fold}
use Rattle.std.specs.List.{AllByRecursion}
use Rattle.std.proofs.lemmas.List.{length-append}
use Rattle.std.proofs.lemmas.List.Elements.{recursion_from_All}
use Rattle.numeric.specs.declared.ty.Ty.{Ty}
use Rattle.numeric.specs.declared.ty.Ty.TheVariants.{I32}
use Rattle.numeric.specs.Wrap.{IsOf}
use Rattle.tree.specs.Term.{Term}
use Rattle.tree.specs.Names.{AreAsTold, IsIndex}
use Rattle.tree.specs.Typing.{type_of}
use Rattle.tree.specs.Uses.{Asked, calls_made}
use Rattle.tree.proofs.Typed.{some_of}
use Rattle.meaning.specs.Algorithm.{Range, Change, Function, Algorithm}
use Rattle.meaning.specs.Names.{same_name, is_among, bound}
use Rattle.meaning.specs.Reduction.{size, point}
use Rattle.meaning.specs.Points.{AreRanges, IsIn}
use Rattle.meaning.specs.Conditions.{callable, names_in, IsExpression, IsFunction, IsUpdate, IsRange}
use Rattle.meaning.specs.Value.{Calls, pure_value, value_after, value_updated}
use Rattle.meaning.specs.Count.{Costs, Counted, with_cost, pure_count, left_cost, right_cost, count_after, counted_updated, counted}
use Rattle.meaning.proofs.Cases.{same_name_is}
use Rattle.meaning.proofs.Points.{point_within}
use Rattle.meaning.proofs.Types.{AnswersAre}
use Rattle.meaning.proofs.Typed.{ValuesAre, pure_is, after_is, reduction_point_is}
use Rattle.meaning.proofs.Calls.{NoneNamed, callable_own, callable_other, take_one_more, none_before_is, none_is_input}
use Rattle.meaning.proofs.Cases.{name_differs}
use Rattle.lin.specs.declared.span.Span1.{Span1}
use Rattle.lin.specs.Spans.{IsInRegion}
use Rattle.lin.proofs.TermLemmas.{all_weaker}
use Rattle.bounds.specs.Spans.{numbers}
use Rattle.bounds.specs.Projection.Sound.{AgreeOutside}
use Rattle.crop.specs.Inference.Needed.{callable_before, callable_through, with_domain, needed}
use Rattle.crop.specs.Inference.Sound.{IsInIfNamed, ContainsCalls, ContainsUpdate, ContainsFunction}
use Rattle.crop.specs.declared.cut.Stretch.{Stretch}
use Rattle.crop.specs.Narrow.{IsScene}
use Rattle.crop.specs.Moving.{shifted}
use Rattle.crop.specs.Cutting.{Kept, Cut, lows, spans_of, origin_of, region_of, kept_named, origin_named, region_named, change_cut, function_cut, IsInBox, InsideIf, IsCovered, IsClosedAt}
use Rattle.crop.proofs.Wide.{scene_function, scene_contains}
use Rattle.crop.proofs.Lists.{all_at, all_from}
use Rattle.crop.proofs.Definitions.{none, holds_none, box_region, covered, as_told}
use Rattle.crop.proofs.Points.{Coordinates, unmoved, unmoved_point, moves_pure, moves_update, bound_within, both_points, bound_all, append_region, domain_region, some_bool}
use Rattle.crop.proofs.Functions.{are_coordinates, arity, kept_at, pure_moved, own_answers, own_agree, own_arity, hit_moved, after_moved}
use Rattle.crop.proofs.Prices.{cost_stays, lefts_cost}

box_length : (b : List Stretch) (p : List ℤ) → IsInBox b p → length p ≡ length b
box_length [] [] h = refl
box_length [] (z ∷ zs) h = absurd h
box_length (e ∷ es) [] h = absurd h
box_length (e ∷ es) (z ∷ zs) h = ap suc (box_length es zs h.2)

domain_length : (ds : List Range) (r : List ℤ) → IsIn ds r → length r ≡ length (map (λ d. d.variable) ds)
domain_length [] [] h = refl
domain_length [] (z ∷ zs) h = absurd h
domain_length (d ∷ ds) [] h = absurd h
domain_length (d ∷ ds) (z ∷ zs) h = ap suc (domain_length ds zs h.2)

rising : (ds : List Range) → AllByRecursion IsRange ds → AreRanges ds
rising [] h = tt
rising (d ∷ ds) h = (h.0.rises, rising ds h.1)

module _ (a : Algorithm) (w : IsScene a) (cut : Cut) (k : ℕ) (f : Function) (e : slice_get a.functions k ≡ Some f) (kept : Kept) (g : slice_get cut.kept k ≡ Some (Some kept))
    (closed : IsClosedAt a cut k f kept)
    (some : 1 ≤ length a.input_extents) (many : AllByRecursion (λ u. 1 ≤ length u.variables) (take k a.functions)) (calls others : Calls)
    (answers : AnswersAre (callable_before a k) calls)
    (agree : (name : List ℕ) (at : List ℤ) → AllByRecursion IsIndex at → IsSome (callable_before a k name) → InsideIf (region_named a cut name) at
    → others name (unmoved (origin_named a cut name) at) ≡ calls name at)
    (costs prices : Costs)
    (priced : (name : List ℕ) (at : List ℤ) → AllByRecursion IsIndex at → IsSome (callable_before a k name) → InsideIf (region_named a cut name) at
    → prices name (unmoved (origin_named a cut name) at) ≡ costs name at) where
  is : IsFunction a (take k a.functions) f
  is = scene_function a w k f e

  not_before : NoneNamed f.name (take k a.functions)
  not_before = none_before_is a w.names k f e

  abbrev o : List ℤ
  o = kept.origin

  abbrev f' : Function
  f' = function_cut a cut k f kept

  abbrev R : List Span1
  R = spans_of kept.region

  not_input : same_name a.input f.name ≡ false
  not_input = name_differs a.input f.name (λ s. none_is_input a w.names k f e (sym s))

  own_kept : kept_named a.functions cut.kept f.name ≡ Some kept
  own_kept = kept_at a.functions cut.kept k f (Some kept) e g not_before

  own_origin : origin_named a cut f.name ≡ kept.origin
  own_origin = λ i. elim (not_input i) [ true ↦ lows cut.part | false ↦ origin_of (own_kept i) ]

  own_region : region_named a cut f.name ≡ Some kept.region
  own_region = λ i. elim (not_input i) [ true ↦ Some cut.asked | false ↦ region_of (own_kept i) ]

  through : callable a (take k a.functions ++ f ∷ []) ≡ callable_through a k
  through = ap (callable a) (sym (take_one_more a.functions k f e))

  -- what may be called before the function may be called through it
  known_through : (name : List ℕ) → IsSome (callable_before a k name) → IsSome (callable_through a k name)
  known_through name c = subst (λ (h : List ℕ → Option (Ty × ℕ)). IsSome (h name)) through (elim (some_bool (same_name f.name name)) [
    | inl t ↦ subst (λ (n : List ℕ). IsSome (callable a (take k a.functions ++ f ∷ []) n)) (same_name_is f.name name t)
        (subst (λ (o : Option (Ty × ℕ)). IsSome o) (sym (callable_own a (take k a.functions) f not_before)) refl)
    | inr t ↦ subst (λ (o : Option (Ty × ℕ)). IsSome o) (sym (callable_other a (take k a.functions) f name t)) c
  ])

  -- values, and counts, that are alike where they are asked for
  abbrev Alike : (List ℤ → ℤ) → (List ℤ → ℤ) → Type 0
  Alike v v' = (p : List ℤ) → Coordinates p → IsInBox kept.region p → v' (unmoved o p) ≡ v p

  abbrev pub CountsAlike : (List ℤ → ℕ) → (List ℤ → ℕ) → Type 0
  CountsAlike c c' = (p : List ℤ) → Coordinates p → IsInBox kept.region p → c' (unmoved o p) ≡ c p

  -- what a function's own calls cost
  pub own_priced : (c c' : List ℤ → ℕ) → CountsAlike c c' → (name : List ℕ) (at : List ℤ) → AllByRecursion IsIndex at → IsSome (callable_through a k name) → InsideIf (region_named a cut name) at
      → with_cost prices f.name c' name (unmoved (origin_named a cut name) at) ≡ with_cost costs f.name c name at
  own_priced c c' alike name at h s q = elim (some_bool (same_name f.name name)) [
    | inl t ↦
        let named = same_name_is f.name name t in
        let q' : IsInBox kept.region at = subst (λ (b : Option (List Stretch)). InsideIf b at) (ap (region_named a cut) (sym named) ∙ own_region) q in
        let oo = ap (origin_named a cut) (sym named) ∙ own_origin in
        ap (λ b. elim b [ true ↦ c' (unmoved (origin_named a cut name) at) | false ↦ prices name (unmoved (origin_named a cut name) at) ]) t
        ∙ ap (λ z. c' (unmoved z at)) oo ∙ alike at h q' ∙ sym (ap (λ b. elim b [ true ↦ c at | false ↦ costs name at ]) t)
    | inr t ↦
        let s' = subst (λ (b : Option (Ty × ℕ)). IsSome b) (ap (λ h. h name) (sym through) ∙ callable_other a (take k a.functions) f name t) s in
        ap (λ b. elim b [ true ↦ c' (unmoved (origin_named a cut name) at) | false ↦ prices name (unmoved (origin_named a cut name) at) ]) t
        ∙ priced name at h s' q ∙ sym (ap (λ b. elim b [ true ↦ c at | false ↦ costs name at ]) t)
  ]

  agree_none : AgreeOutside [] none none
  agree_none n h = refl

  function_contains : (callee : List ℕ) (s : List Span1) → needed [] a k callee R ≡ Some s → ContainsFunction [] [] a k callee R s f
  function_contains callee s h = scene_contains a w k f e callee R s h

  -- calls that lie in what is needed of a name are of points that are asked for
  reached : (callee : List ℕ) (cs : List Asked) (found : Option (List Span1)) → IsCovered (region_named a cut callee) found
      → ((s : List Span1) → found ≡ Some s → AllByRecursion (IsInIfNamed callee none s) cs) → AllByRecursion (λ c. c.name ≡ callee → 1 ≤ length c.at → InsideIf (region_named a cut callee) c.at) cs
  reached callee cs None c h = absurd c
  reached callee cs (Some s) c h = all_weaker (IsInIfNamed callee none s) (λ c. c.name ≡ callee → 1 ≤ length c.at → InsideIf (region_named a cut callee) c.at)
      (λ asked here named long. covered (region_named a cut callee) s asked.at c long (here named)) cs (h s refl)

  -- ---- the pure definition
  module _ (p : List ℤ) (hp : Coordinates p) (inside : IsInBox kept.region p) where
    long : length p ≡ length f.variables
    long = box_length kept.region p inside ∙ closed.rank

    pure_told : AreAsTold (is_among f.variables) (callable_before a k) (bound f.variables p) calls
    pure_told = as_told (is_among f.variables) (callable_before a k) (bound f.variables p) calls (bound_within f.variables p hp) answers

    pure_region : IsInRegion R none (map (bound f.variables p) f.variables)
    pure_region = subst (IsInRegion R none) (sym (bound_all f.variables p is.names long)) (box_region kept.region p inside)

    pub pure_counted : pure_count others prices f' (unmoved o p) ≡ pure_count calls costs f p
    pure_counted = ap (λ n. 1 + n) (cost_stays a cut f kept (callable_before a k) f.variables p (unmoved o p) R calls others pure_told pure_region
        (bound_within f.variables (unmoved o p) (unmoved_point o p hp)) (λ name t. moves_pure f.variables o p long hp name) (arity a some (take k a.functions) many) agree costs prices priced
        f.value (some_of (Some f.ty) (type_of (is_among f.variables) (callable_before a k) f.value) (sym is.pure.typed) refl)
        (λ callee s. reached callee (calls_made (bound f.variables p) calls f.value) (needed [] a k callee R) (closed.covers callee (known_through callee s))
        (λ found h. recursion_from_All (IsInIfNamed callee none found) (calls_made (bound f.variables p) calls f.value)
        ((function_contains callee found h).pure none none (bound f.variables p) calls holds_none agree_none pure_told pure_region))))

  -- ---- an update
  module _ (u : Change) (i : ℕ) (at_i : slice_get f.changes i ≡ Some u) (iu : IsUpdate a (take k a.functions) f u) (r : List ℤ) (ir : IsIn u.ranges r) (hr : Coordinates r) (p : List ℤ)
      (hp : Coordinates p) (inside : IsInBox kept.region p) where
    abbrev names : List (List ℕ)
    names = names_in f u

    abbrev S : List Span1
    S = with_domain R u.ranges

    long_p : length p ≡ length f.variables
    long_p = box_length kept.region p inside ∙ closed.rank

    long_both : length (p ++ r) ≡ length names
    long_both = length-append p r ∙ (λ n. long_p n + domain_length u.ranges r ir n) ∙ sym (length-append f.variables (map (λ d. d.variable) u.ranges))

    within_both : (name : List ℕ) → IsOf I32 (bound names (unmoved o p ++ r) name)
    within_both = bound_within names (unmoved o p ++ r) (both_points (unmoved o p) r (unmoved_point o p hp) hr)

    moves_both : (name : List ℕ) → IsTrue (is_among names name) → bound names (p ++ r) name ≡ shifted (bound f.variables o name) (bound names (unmoved o p ++ r) name)
    moves_both name t = moves_update f.variables (map (λ d. d.variable) u.ranges) o p r long_p hp hr name

    region_both : IsInRegion S none (map (bound names (p ++ r)) names)
    region_both = subst (IsInRegion S none) (sym (bound_all names (p ++ r) iu.names long_both))
        (append_region R (map (λ d. numbers d.low d.high) u.ranges) none p r (box_region kept.region p inside) (domain_region u.ranges none r ir))

    told_of : (functions : List ℕ → Option (Ty × ℕ)) (of : Calls) → AnswersAre functions of → AreAsTold (is_among names) functions (bound names (p ++ r)) of
    told_of functions of h = as_told (is_among names) functions (bound names (p ++ r)) of (bound_within names (p ++ r) (both_points p r hp hr)) h

    contains_u : (callee : List ℕ) (s : List Span1) → needed [] a k callee R ≡ Some s → ContainsUpdate [] [] a k callee R s f u
    contains_u callee s h = all_at (ContainsUpdate [] [] a k callee R s f) f.changes i u (function_contains callee s h).updates at_i

    left_told : AreAsTold (is_among names) (callable_before a k) (bound names (p ++ r)) calls
    left_told = told_of (callable_before a k) calls answers

    abbrev LeftReached : Term → Type 0
    LeftReached x = (callee : List ℕ) → IsSome (callable_before a k callee)
        → AllByRecursion (λ c. c.name ≡ callee → 1 ≤ length c.at → InsideIf (region_named a cut callee) c.at) (calls_made (bound names (p ++ r)) calls x)

    left_reached : (x : Term) (j : ℕ) → slice_get u.at j ≡ Some x → LeftReached x
    left_reached x j at_j callee s = reached callee (calls_made (bound names (p ++ r)) calls x) (needed [] a k callee R) (closed.covers callee (known_through callee s))
        (λ found h. recursion_from_All (IsInIfNamed callee none found) (calls_made (bound names (p ++ r)) calls x)
        (all_at (λ e. ContainsCalls [] [] (is_among names) (callable_before a k) names S callee e found) u.at j x (contains_u callee found h).left at_j none none (bound names (p ++ r)) calls
        holds_none agree_none left_told region_both))

    lefts_typed : (xs : List Term) → AllByRecursion (IsExpression names (callable_before a k) I32) xs → AllByRecursion (λ x. type_of (is_among names) (callable_before a k) x ≡ Some I32) xs
    lefts_typed [] h = tt
    lefts_typed (x ∷ xs) h = (h.0.typed, lefts_typed xs h.1)

    left_counted : left_cost others prices f' (change_cut a cut k f kept u) (unmoved o p ++ r) ≡ left_cost calls costs f u (p ++ r)
    left_counted = lefts_cost a cut f kept (callable_before a k) names (p ++ r) (unmoved o p ++ r) S calls others left_told region_both within_both moves_both
        (arity a some (take k a.functions) many) agree costs prices priced o u.at
        (lefts_typed u.at (recursion_from_All (IsExpression names (callable_before a k) I32) u.at iu.left)) (all_from LeftReached u.at left_reached)

    -- the right side, whose own calls give values, and take evaluations, that are alike
    module _ (v v' : List ℤ → ℤ) (alike : Alike v v') (are : ValuesAre f.ty v) (c c' : List ℤ → ℕ) (counts : CountsAlike c c') where
      abbrev own : Calls
      own = Rattle.meaning.specs.Value.with_name calls f.name f.ty v

      abbrev own' : Calls
      own' = Rattle.meaning.specs.Value.with_name others f.name f.ty v'

      right_told : AreAsTold (is_among names) (callable_through a k) (bound names (p ++ r)) own
      right_told = told_of (callable_through a k) own (own_answers a w cut k f e kept g closed some many calls others answers agree v are)

      right_typed : IsSome (type_of (is_among names) (callable_through a k) u.value)
      right_typed = subst (λ (h : List ℕ → Option (Ty × ℕ)). IsSome (type_of (is_among names) h u.value)) through
          (some_of (Some f.ty) (type_of (is_among names) (callable a (take k a.functions ++ f ∷ [])) u.value) (sym iu.right.typed) refl)

      right_counted : right_cost others prices f' v' c' (change_cut a cut k f kept u) (unmoved o p ++ r) ≡ right_cost calls costs f v c u (p ++ r)
      right_counted = cost_stays a cut f kept (callable_through a k) names (p ++ r) (unmoved o p ++ r) S own own' right_told region_both within_both moves_both
          (own_arity a w cut k f e kept g closed some many calls others answers agree) (own_agree a w cut k f e kept g closed some many calls others answers agree v v' alike)
          (with_cost costs f.name c) (with_cost prices f.name c') (own_priced c c' counts) u.value right_typed
          (λ callee s. reached callee (calls_made (bound names (p ++ r)) own u.value) (needed [] a k callee R) (closed.covers callee s)
          (λ found h. recursion_from_All (IsInIfNamed callee none found) (calls_made (bound names (p ++ r)) own u.value)
          ((contains_u callee found h).right none none (bound names (p ++ r)) own holds_none agree_none right_told region_both)))

  -- ---- counts after some points, and after all updates
  abbrev Good : Change → Type 0
  Good u = (i : ℕ) × (slice_get f.changes i ≡ Some u)

  update_of : (u : Change) → Good u → IsUpdate a (take k a.functions) f u
  update_of u d = all_at (IsUpdate a (take k a.functions) f) f.changes d.0 u is.updates d.1

  -- the values and counts of the function so far are alike
  record BothAlike (b b' : Counted) : Type 0 where
    values : Alike b.values b'.values
    typed : ValuesAre f.ty b.values
    counts : CountsAlike b.counts b'.counts

  module _ (u : Change) (d : Good u) (b b' : Counted) (both : BothAlike b b') where
    values_after : (n : ℕ) → Alike (value_after calls f b.values u n) (value_after others f' b'.values (change_cut a cut k f kept u) n)
    values_after n = after_moved a w cut k f e kept g closed some many calls others answers agree u d b.values b'.values both.values both.typed n

    typed_after : (n : ℕ) → ValuesAre f.ty (value_after calls f b.values u n)
    typed_after n = after_is a (take k a.functions) f is not_before calls answers b.values both.typed u (update_of u d) n

    counts_after : (n : ℕ) → CountsAlike (count_after calls costs f b u n) (count_after others prices f' b' (change_cut a cut k f kept u) n)
    counts_after zero p hp inside = ap (λ n. 1 + n) (both.counts p hp inside)
    counts_after (suc n) p hp inside =
        let iu = update_of u d in
        let r = point u.ranges n in
        let ir = point_within u.ranges n (rising u.ranges (recursion_from_All IsRange u.ranges iu.domain.ranges)) in
        let hr = are_coordinates r (reduction_point_is u.ranges n iu.domain.ranges) in
        let test = hit_moved a w cut k f e kept g closed some many calls others answers agree u d.0 d.1 iu r ir hr p hp inside in
        let left = left_counted u d.0 d.1 iu r ir hr p hp inside in
        let right = right_counted u d.0 d.1 iu r ir hr p hp inside (value_after calls f b.values u n) (value_after others f' b'.values (change_cut a cut k f kept u) n) (values_after n)
        (typed_after n) (count_after calls costs f b u n) (count_after others prices f' b' (change_cut a cut k f kept u) n) (counts_after n) in
        let before = counts_after n p hp inside in
        λ i. 1 + left i + elim (test i) [ true ↦ right i | false ↦ before i ]

    updated_alike : BothAlike (counted_updated calls costs f b u) (counted_updated others prices f' b' (change_cut a cut k f kept u))
    updated_alike = record { values = values_after (size u.ranges); typed = typed_after (size u.ranges); counts = counts_after (size u.ranges) }

  fold_counted : (us : List Change) → AllByRecursion Good us → (b b' : Counted) → BothAlike b b'
      → CountsAlike (fold (counted_updated calls costs f) b us).counts (fold (counted_updated others prices f') b' (map (change_cut a cut k f kept) us)).counts
  fold_counted [] d b b' both = both.counts
  fold_counted (u ∷ us) d b b' both =
      fold_counted us d.1 (counted_updated calls costs f b u) (counted_updated others prices f' b' (change_cut a cut k f kept u)) (updated_alike u d.0 b b' both)

  pub counts_moved : CountsAlike (counted calls costs f).counts (counted others prices f').counts
  counts_moved = fold_counted f.changes (all_from Good f.changes (λ u i q. (i, q))) (record { values = pure_value calls f; counts = pure_count calls costs f })
      (record { values = pure_value others f'; counts = pure_count others prices f' }) (record {
        values = pure_moved a w cut k f e kept g closed some many calls others answers agree;
        typed = pure_is a (take k a.functions) f is not_before calls answers;
        counts = pure_counted;
      })
