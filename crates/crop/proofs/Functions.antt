-- The value of a function that is kept, at a point moved back from its origin.
use Rattle.std.proofs.Common.{◌≡◌, ℕ, zero, suc, ◌+◌, ◌≤◌, List, [], ◌∷◌, ◌++◌, length, Bool, true, false, Option, Some, None, IsSome, IsTrue, ℤ, refl, sym, ap, ◌∙◌, subst, arith, inl, inr}
use Rattle.std.specs.Prelude.{map, All, slice_get, take, fold}
use Rattle.std.specs.List.{AllByRecursion}
use Rattle.std.proofs.lemmas.List.Elements.{recursion_from_All, All-from_recursion}
use Rattle.numeric.specs.declared.ty.Ty.{Ty}
use Rattle.numeric.specs.declared.ty.Ty.TheVariants.{I32}
use Rattle.numeric.specs.Wrap.{IsOf}
use Rattle.tree.specs.declared.value.Value.{Value}
use Rattle.tree.specs.Term.{Term}
use Rattle.tree.specs.Meaning.{typed}
use Rattle.tree.specs.Names.{AreAsTold, IsIndex, TakesCall}
use Rattle.tree.specs.Typing.{type_of}
use Rattle.tree.specs.Uses.{Asked, calls_made}
use Rattle.tree.proofs.Typed.{some_of}
use Rattle.tree.proofs.Soundness.{does_as_typed}
use Rattle.meaning.specs.Algorithm.{Range, Change, Function, Algorithm}
use Rattle.meaning.specs.Names.{same_name, same_point, is_among, bound}
use Rattle.meaning.specs.Reduction.{size, point}
use Rattle.meaning.specs.Points.{AreRanges, IsIn}
use Rattle.meaning.specs.Conditions.{callable, names_in, IsExpression, IsFunction, IsUpdate, IsRange}
use Rattle.meaning.specs.Functions.{IsPoint}
use Rattle.meaning.specs.Value.{Calls, with_name, number_at, left_side, right_side, pure_value, value_after, value_updated, value}
use Rattle.meaning.proofs.Cases.{name_same, name_differs, same_name_is}
use Rattle.meaning.proofs.Points.{point_within}
use Rattle.meaning.proofs.Types.{IsValue, AnswersAre}
use Rattle.meaning.proofs.Typed.{ValuesAre, pure_is, after_is, whole_is, reduction_point_is}
use Rattle.meaning.proofs.Calls.{NoneNamed, callable_own, callable_other, take_one_more, none_before_is, none_is_input}
use Rattle.lin.specs.declared.span.Span1.{Span1}
use Rattle.lin.specs.Spans.{IsInRegion}
use Rattle.lin.proofs.TermLemmas.{all_weaker}
use Rattle.crop.specs.declared.cut.Stretch.{Stretch}
use Rattle.bounds.specs.Projection.Sound.{AgreeOutside}
use Rattle.crop.specs.Inference.Needed.{callable_before, callable_through, with_domain, needed}
use Rattle.crop.specs.Inference.Sound.{IsInIfNamed, ContainsCalls, ContainsUpdate, ContainsFunction}
use Rattle.crop.specs.Narrow.{IsScene}
use Rattle.crop.specs.Moving.{shifted}
use Rattle.bounds.specs.Spans.{numbers}
use Rattle.crop.proofs.Wide.{scene_function, scene_contains}
use Rattle.crop.proofs.Lists.{all_at, all_from, all_more}
use Rattle.crop.specs.Cutting.{Kept, Cut, lows, spans_of, origin_of, region_of, kept_named, origin_named, region_named, change_cut, function_cut, IsInBox, InsideIf, IsCovered, IsClosedAt}
use Rattle.crop.proofs.Definitions.{none, holds_none, box_region, covered, as_told, number_stays, lefts_stay, AllReach}
use Rattle.crop.proofs.Points.{Coordinates, unmoved, unmoved_point, same_unmoved, moves_pure, moves_update, bound_within, both_points, bound_all, append_region, domain_region, some_bool}

pub is_point : (p : List ℤ) → Coordinates p → IsPoint p
is_point p h = All-from_recursion (IsOf I32) p h

pub are_coordinates : (p : List ℤ) → IsPoint p → Coordinates p
are_coordinates p h = recursion_from_All (IsOf I32) p h

box_length : (b : List Stretch) (p : List ℤ) → IsInBox b p → length p ≡ length b
box_length [] [] h = refl
box_length [] (z ∷ zs) h = absurd h
box_length (e ∷ es) [] h = absurd h
box_length (e ∷ es) (z ∷ zs) h = ap suc (box_length es zs h.2)

ranges_rise : (ds : List Range) → AllByRecursion IsRange ds → AreRanges ds
ranges_rise [] h = tt
ranges_rise (d ∷ ds) h = (h.0.rises, ranges_rise ds h.1)

in_length : (ds : List Range) (r : List ℤ) → IsIn ds r → length r ≡ length (map (λ d. d.variable) ds)
in_length [] [] h = refl
in_length [] (z ∷ zs) h = absurd h
in_length (d ∷ ds) [] h = absurd h
in_length (d ∷ ds) (z ∷ zs) h = ap suc (in_length ds zs h.2)

length_both : {A : Type 0} (xs ys : List A) → length (xs ++ ys) ≡ length xs + length ys
length_both [] ys = omega arith
length_both (x ∷ xs) ys = let e = length_both xs ys in omega (arith, e)

same_sig : {A : Type 0} {x y : A} → Some x ≡ Some y → x ≡ y
same_sig e = cc

none_after : {A : Type 0} (x : A) → None ≡ Some x → ⊥
none_after x e = cc

-- each function takes an index or more, and so does the input
module _ (a : Algorithm) (some : 1 ≤ length a.input_extents) where
  pub arity : (fs : List Function) → AllByRecursion (λ g. 1 ≤ length g.variables) fs → (name : List ℕ) (n : ℕ) → TakesCall (callable a fs name) n → 1 ≤ n
  arity [] h name n t = elim (some_bool (same_name a.input name)) [
    | inl e ↦ let q = subst (λ (b : Bool). TakesCall (elim b [ true ↦ Some (a.input_ty, length a.input_extents) | false ↦ None ]) n) e t in omega (arith, q, some)
    | inr e ↦ absurd (subst (λ (b : Bool). TakesCall (elim b [ true ↦ Some (a.input_ty, length a.input_extents) | false ↦ None ]) n) e t)
  ]
  arity (g ∷ gs) h name n t = elim (some_bool (same_name g.name name)) [
    | inl e ↦ let q = subst (λ (b : Bool). TakesCall (elim b [ true ↦ Some (g.ty, length g.variables) | false ↦ callable a gs name ]) n) e t in let one = h.0 in omega (arith, q, one)
    | inr e ↦ arity gs h.1 name n (subst (λ (b : Bool). TakesCall (elim b [ true ↦ Some (g.ty, length g.variables) | false ↦ callable a gs name ]) n) e t)
  ]

-- answers where a function's own calls give values of its type
pub with_own : (a : Algorithm) (before : List Function) (f : Function) (none : NoneNamed f.name before) (calls : Calls) → AnswersAre (callable a before) calls → (v : List ℤ → ℤ) → ValuesAre f.ty v
    → AnswersAre (callable a (before ++ f ∷ [])) (with_name calls f.name f.ty v)
with_own a before f none calls answers v is name s e at inside =
    let pick : Bool → Value = λ b. elim b [ true ↦ typed f.ty (v at) | false ↦ calls name at ] in
    elim (some_bool (same_name f.name name)) [
      | inl test ↦
          let named = same_name_is f.name name test in
          let own = ap (callable a (before ++ f ∷ [])) (sym named) ∙ callable_own a before f none in
          let same : (f.ty, length f.variables) ≡ s = same_sig (sym own ∙ e) in
          let ty : f.ty ≡ s.0 = ap (λ (x : Ty × ℕ). x.0) same in
          subst (IsValue s.0) (sym (ap pick test)) (record { ty = ty; within = subst (λ (t : Ty). IsOf t (v at)) ty (is at inside) })
      | inr test ↦
          let other = sym (callable_other a before f name test) ∙ e in
          subst (IsValue s.0) (sym (ap pick test)) (answers name s other at inside)
    ]

-- what is kept of the function of a name
pub kept_at : (fs : List Function) (ks : List (Option Kept)) (k : ℕ) (f : Function) (x : Option Kept) → slice_get fs k ≡ Some f → slice_get ks k ≡ Some x → NoneNamed f.name (take k fs)
    → kept_named fs ks f.name ≡ x
kept_at [] ks k f x e g d = absurd (none_after f e)
kept_at (h ∷ fs) [] k f x e g d = absurd (none_after x g)
kept_at (h ∷ fs) (y ∷ ks) zero f x e g d =
    let same : h ≡ f = same_sig e in
    let this : y ≡ x = same_sig g in
    ap (λ b. elim b [ true ↦ y | false ↦ kept_named fs ks f.name ]) (name_same h.name f.name (ap (λ (u : Function). u.name) same)) ∙ this
kept_at (h ∷ fs) (y ∷ ks) (suc k) f x e g d =
    ap (λ b. elim b [ true ↦ y | false ↦ kept_named fs ks f.name ]) (name_differs h.name f.name (d 0 h refl))
    ∙ kept_at fs ks k f x e g (λ j u q. d (suc j) u q)

module _ (a : Algorithm) (w : IsScene a) (cut : Cut) (k : ℕ) (f : Function) (e : slice_get a.functions k ≡ Some f) (kept : Kept) (g : slice_get cut.kept k ≡ Some (Some kept))
    (closed : IsClosedAt a cut k f kept)
    (some : 1 ≤ length a.input_extents) (many : AllByRecursion (λ u. 1 ≤ length u.variables) (take k a.functions)) (calls others : Calls)
    (answers : AnswersAre (callable_before a k) calls)
    (agree : (name : List ℕ) (at : List ℤ) → AllByRecursion IsIndex at → IsSome (callable_before a k name) → InsideIf (region_named a cut name) at
    → others name (unmoved (origin_named a cut name) at) ≡ calls name at) where
  is : IsFunction a (take k a.functions) f
  is = scene_function a w k f e

  not_before : NoneNamed f.name (take k a.functions)
  not_before = none_before_is a w.names k f e

  not_input : same_name a.input f.name ≡ false
  not_input = name_differs a.input f.name (λ s. none_is_input a w.names k f e (sym s))

  own_kept : kept_named a.functions cut.kept f.name ≡ Some kept
  own_kept = kept_at a.functions cut.kept k f (Some kept) e g not_before

  own_origin : origin_named a cut f.name ≡ kept.origin
  own_origin = (λ i. elim (not_input i) [ true ↦ lows cut.part | false ↦ origin_of (own_kept i) ])

  own_region : region_named a cut f.name ≡ Some kept.region
  own_region = (λ i. elim (not_input i) [ true ↦ Some cut.asked | false ↦ region_of (own_kept i) ])

  abbrev o : List ℤ
  o = kept.origin

  abbrev f' : Function
  f' = function_cut a cut k f kept

  abbrev R : List Span1
  R = spans_of kept.region

  through : callable a (take k a.functions ++ f ∷ []) ≡ callable_through a k
  through = ap (callable a) (sym (take_one_more a.functions k f e))

  -- what may be called before the function may be called through it
  known_through : (name : List ℕ) → IsSome (callable_before a k name) → IsSome (callable_through a k name)
  known_through name c = subst (λ (h : List ℕ → Option (Ty × ℕ)). IsSome (h name)) through (elim (some_bool (same_name f.name name)) [
    | inl t ↦ subst (λ (n : List ℕ). IsSome (callable a (take k a.functions ++ f ∷ []) n)) (same_name_is f.name name t)
        (subst (λ (o : Option (Ty × ℕ)). IsSome o) (sym (callable_own a (take k a.functions) f not_before)) refl)
    | inr t ↦ subst (λ (o : Option (Ty × ℕ)). IsSome o) (sym (callable_other a (take k a.functions) f name t)) c
  ])

  -- what is needed of a name holds the calls of it
  module _ (callee : List ℕ) (names : List (List ℕ)) (numbers : List ℤ) (region : List Span1) (answers_of : Calls) (x : Term) where
    abbrev P : Asked → Type 0
    P c = c.name ≡ callee → 1 ≤ length c.at → InsideIf (region_named a cut callee) c.at

    reach_from : (found : Option (List Span1)) → IsCovered (region_named a cut callee) found
        → ((s : List Span1) → found ≡ Some s → All (IsInIfNamed callee none s) (calls_made (bound names numbers) answers_of x)) → AllByRecursion P (calls_made (bound names numbers) answers_of x)
    reach_from None c h = absurd c
    reach_from (Some s) c h =
        all_weaker (IsInIfNamed callee none s) P (λ asked here named long. covered (region_named a cut callee) s asked.at c long (here named)) (calls_made (bound names numbers) answers_of x)
        (recursion_from_All (IsInIfNamed callee none s) (calls_made (bound names numbers) answers_of x) (h s refl))

  function_contains : (callee : List ℕ) (s : List Span1) → needed [] a k callee R ≡ Some s → ContainsFunction [] [] a k callee R s f
  function_contains callee s h = scene_contains a w k f e callee R s h

  agree_none : AgreeOutside [] none none
  agree_none n h = refl

  -- ---- the pure definition
  module _ (p : List ℤ) (hp : Coordinates p) (inside : IsInBox kept.region p) where
    long : length p ≡ length f.variables
    long = box_length kept.region p inside ∙ closed.rank

    pure_told : AreAsTold (is_among f.variables) (callable_before a k) (bound f.variables p) calls
    pure_told = as_told (is_among f.variables) (callable_before a k) (bound f.variables p) calls (bound_within f.variables p hp) answers

    pure_region : IsInRegion R none (map (bound f.variables p) f.variables)
    pure_region = subst (IsInRegion R none) (sym (bound_all f.variables p is.names long)) (box_region kept.region p inside)

    pure_reach : AllReach a cut f kept (callable_before a k) f.variables p (unmoved o p) R calls others pure_told pure_region (bound_within f.variables (unmoved o p) (unmoved_point o p hp))
        (λ name t. moves_pure f.variables o p long hp name) (arity a some (take k a.functions) many) agree f.value
    pure_reach callee some_c = reach_from callee f.variables p R calls f.value (needed [] a k callee R) (closed.covers callee (known_through callee some_c))
        (λ s h. (function_contains callee s h).pure none none (bound f.variables p) calls holds_none agree_none pure_told pure_region)

    pub pure_moved : pure_value others f' (unmoved o p) ≡ pure_value calls f p
    pure_moved = number_stays a cut f kept (callable_before a k) f.variables p (unmoved o p) R calls others pure_told pure_region (bound_within f.variables (unmoved o p) (unmoved_point o p hp))
        (λ name t. moves_pure f.variables o p long hp name) (arity a some (take k a.functions) many) agree f.value (some_of (Some f.ty) (type_of (is_among f.variables)
        (callable_before a k) f.value) (sym is.pure.typed) refl) pure_reach

  -- values of the function and of the cut one that are alike where they are asked for
  abbrev pub Alike : (List ℤ → ℤ) → (List ℤ → ℤ) → Type 0
  Alike v v' = (p : List ℤ) → Coordinates p → IsInBox kept.region p → v' (unmoved o p) ≡ v p

  -- a function's own calls, whose values are alike
  abbrev pub With : Calls → (List ℤ → ℤ) → Calls
  With of v = with_name of f.name f.ty v

  pub own_answers : (v : List ℤ → ℤ) → ValuesAre f.ty v → AnswersAre (callable_through a k) (With calls v)
  own_answers v are = subst (λ (h : List ℕ → Option (Ty × ℕ)). AnswersAre h (With calls v)) through (with_own a (take k a.functions) f not_before calls answers v are)

  pub own_agree : (v v' : List ℤ → ℤ) → Alike v v' → (name : List ℕ) (at : List ℤ) → AllByRecursion IsIndex at → IsSome (callable_through a k name) → InsideIf (region_named a cut name) at
      → With others v' name (unmoved (origin_named a cut name) at) ≡ With calls v name at
  own_agree v v' alike name at h c q = elim (some_bool (same_name f.name name)) [
    | inl t ↦
        let named = same_name_is f.name name t in
        let q' : IsInBox kept.region at = subst (λ (b : Option (List Stretch)). InsideIf b at) (ap (region_named a cut) (sym named) ∙ own_region) q in
        let oo = ap (origin_named a cut) (sym named) ∙ own_origin in
        ap (λ b. elim b [ true ↦ typed f.ty (v' (unmoved (origin_named a cut name) at)) | false ↦ others name (unmoved (origin_named a cut name) at) ]) t
        ∙ ap (λ z. typed f.ty (v' (unmoved z at))) oo ∙ ap (typed f.ty) (alike at h q')
        ∙ sym (ap (λ b. elim b [ true ↦ typed f.ty (v at) | false ↦ calls name at ]) t)
    | inr t ↦
        let c' = subst (λ (b : Option (Ty × ℕ)). IsSome b) (ap (λ h. h name) (sym through) ∙ callable_other a (take k a.functions) f name t) c in
        ap (λ b. elim b [ true ↦ typed f.ty (v' (unmoved (origin_named a cut name) at)) | false ↦ others name (unmoved (origin_named a cut name) at) ]) t
        ∙ agree name at h c' q
        ∙ sym (ap (λ b. elim b [ true ↦ typed f.ty (v at) | false ↦ calls name at ]) t)
  ]

  pub own_arity : (name : List ℕ) (n : ℕ) → TakesCall (callable_through a k name) n → 1 ≤ n
  own_arity name n t = arity a some (take k a.functions ++ f ∷ []) (all_more (λ u. 1 ≤ length u.variables) (take k a.functions) f many is.some) name n
      (subst (λ (h : List ℕ → Option (Ty × ℕ)). TakesCall (h name) n) (sym through) t)

  -- ---- an update
  module _ (u : Change) (i : ℕ) (at_i : slice_get f.changes i ≡ Some u) (iu : IsUpdate a (take k a.functions) f u) (r : List ℤ) (ir : IsIn u.ranges r) (hr : Coordinates r) (p : List ℤ)
      (hp : Coordinates p) (inside : IsInBox kept.region p) where
    abbrev names : List (List ℕ)
    names = names_in f u

    abbrev S : List Span1
    S = with_domain R u.ranges

    long_p : length p ≡ length f.variables
    long_p = box_length kept.region p inside ∙ closed.rank

    long_both : length (p ++ r) ≡ length names
    long_both = length_both p r ∙ (λ n. long_p n + in_length u.ranges r ir n) ∙ sym (length_both f.variables (map (λ d. d.variable) u.ranges))

    within_both : (name : List ℕ) → IsOf I32 (bound names (unmoved o p ++ r) name)
    within_both = bound_within names (unmoved o p ++ r) (both_points (unmoved o p) r (unmoved_point o p hp) hr)

    moves_both : (name : List ℕ) → IsTrue (is_among names name) → bound names (p ++ r) name ≡ shifted (bound f.variables o name) (bound names (unmoved o p ++ r) name)
    moves_both name t = moves_update f.variables (map (λ d. d.variable) u.ranges) o p r long_p hp hr name

    region_both : IsInRegion S none (map (bound names (p ++ r)) names)
    region_both = subst (IsInRegion S none) (sym (bound_all names (p ++ r) iu.names long_both))
        (append_region R (map (λ d. numbers d.low d.high) u.ranges) none p r (box_region kept.region p inside) (domain_region u.ranges none r ir))

    told_of : (functions : List ℕ → Option (Ty × ℕ)) (of : Calls) → AnswersAre functions of → AreAsTold (is_among names) functions (bound names (p ++ r)) of
    told_of functions of h = as_told (is_among names) functions (bound names (p ++ r)) of (bound_within names (p ++ r) (both_points p r hp hr)) h

    contains_u : (callee : List ℕ) (s : List Span1) → needed [] a k callee R ≡ Some s → ContainsUpdate [] [] a k callee R s f u
    contains_u callee s h = all_at (ContainsUpdate [] [] a k callee R s f) f.changes i u (function_contains callee s h).updates at_i

    left_told : AreAsTold (is_among names) (callable_before a k) (bound names (p ++ r)) calls
    left_told = told_of (callable_before a k) calls answers

    left_reach : (x : Term) (j : ℕ) → slice_get u.at j ≡ Some x → AllReach a cut f kept (callable_before a k) names (p ++ r)
        (unmoved o p ++ r) S calls others left_told region_both within_both moves_both (arity a some (take k a.functions) many) agree x
    left_reach x j at_j callee some_c = reach_from callee names (p ++ r) S calls x (needed [] a k callee R) (closed.covers callee (known_through callee some_c))
        (λ s h. all_at (λ e. ContainsCalls [] [] (is_among names) (callable_before a k) names S callee e s) u.at j x (contains_u callee s h).left at_j none none (bound names (p ++ r)) calls
        holds_none agree_none left_told region_both)

    lefts_reach : AllByRecursion (AllReach a cut f kept (callable_before a k) names (p ++ r)
        (unmoved o p ++ r) S calls others left_told region_both within_both moves_both (arity a some (take k a.functions) many) agree) u.at
    lefts_reach = all_from (AllReach a cut f kept (callable_before a k) names (p ++ r)
        (unmoved o p ++ r) S calls others left_told region_both within_both moves_both (arity a some (take k a.functions) many) agree) u.at left_reach

    lefts_typed : (xs : List Term) → AllByRecursion (IsExpression names (callable_before a k) I32) xs → AllByRecursion (λ x. type_of (is_among names) (callable_before a k) x ≡ Some I32) xs
    lefts_typed [] h = tt
    lefts_typed (x ∷ xs) h = (h.0.typed, lefts_typed xs h.1)

    pub left_moved : left_side others f' (change_cut a cut k f kept u) (unmoved o p) r ≡ unmoved o (left_side calls f u p r)
    left_moved = lefts_stay a cut f kept (callable_before a k) names (p ++ r) (unmoved o p ++ r) S calls others left_told region_both within_both moves_both (arity a some (take k a.functions)
        many) agree o u.at
        (lefts_typed u.at (recursion_from_All (IsExpression names (callable_before a k) I32) u.at iu.left)) lefts_reach

    -- each coordinate of the left side is an i32
    lefts_are : (xs : List Term) → AllByRecursion (λ x. type_of (is_among names) (callable_before a k) x ≡ Some I32) xs → Coordinates (map (number_at calls names (p ++ r)) xs)
    lefts_are [] h = tt
    lefts_are (x ∷ xs) h = ((does_as_typed (is_among names) (callable_before a k) (bound names (p ++ r)) calls left_told x I32 h.0).value.within, lefts_are xs h.1)

    pub left_point : Coordinates (left_side calls f u p r)
    left_point = lefts_are u.at (lefts_typed u.at (recursion_from_All (IsExpression names (callable_before a k) I32) u.at iu.left))

    pub hit_moved : same_point (left_side others f' (change_cut a cut k f kept u) (unmoved o p) r) (unmoved o p) ≡ same_point (left_side calls f u p r) p
    hit_moved = ap (λ q. same_point q (unmoved o p)) left_moved ∙ same_unmoved o (left_side calls f u p r) p left_point hp

    -- the right side, whose own calls give values that are alike
    module _ (v v' : List ℤ → ℤ) (alike : Alike v v') (are : ValuesAre f.ty v) where
      right_told : AreAsTold (is_among names) (callable_through a k) (bound names (p ++ r)) (With calls v)
      right_told = told_of (callable_through a k) (With calls v) (own_answers v are)

      right_typed : IsSome (type_of (is_among names) (callable_through a k) u.value)
      right_typed = subst (λ (h : List ℕ → Option (Ty × ℕ)). IsSome (type_of (is_among names) h u.value)) through
          (some_of (Some f.ty) (type_of (is_among names) (callable a (take k a.functions ++ f ∷ [])) u.value) (sym iu.right.typed) refl)

      right_reach : AllReach a cut f kept (callable_through a k) names (p ++ r) (unmoved o p ++ r) S (With calls v)
          (With others v') right_told region_both within_both moves_both own_arity (own_agree v v' alike) u.value
      right_reach callee some_c = reach_from callee names (p ++ r) S (With calls v) u.value (needed [] a k callee R) (closed.covers callee some_c)
          (λ s h. (contains_u callee s h).right none none (bound names (p ++ r)) (With calls v) holds_none agree_none right_told region_both)

      pub right_moved : right_side others f' v' (change_cut a cut k f kept u) (unmoved o p) r ≡ right_side calls f v u p r
      right_moved = number_stays a cut f kept (callable_through a k) names (p ++ r) (unmoved o p ++ r) S (With calls v)
          (With others v') right_told region_both within_both moves_both own_arity (own_agree v v' alike) u.value right_typed right_reach

  -- ---- values after some points, and after all updates
  abbrev Good : Change → Type 0
  Good u = (i : ℕ) × (slice_get f.changes i ≡ Some u)

  update_of : (u : Change) → Good u → IsUpdate a (take k a.functions) f u
  update_of u d = all_at (IsUpdate a (take k a.functions) f) f.changes d.0 u is.updates d.1

  domain_of : (u : Change) → Good u → (n : ℕ) → IsIn u.ranges (point u.ranges n)
  domain_of u d n = point_within u.ranges n (ranges_rise u.ranges (recursion_from_All IsRange u.ranges (update_of u d).domain.ranges))

  pub after_moved : (u : Change) → Good u → (v v' : List ℤ → ℤ) → Alike v v' → ValuesAre f.ty v → (n : ℕ)
      → Alike (value_after calls f v u n) (value_after others f' v' (change_cut a cut k f kept u) n)
  after_moved u d v v' alike are zero = alike
  after_moved u d v v' alike are (suc n) = λ p hp inside.
      let iu = update_of u d in
      let r = point u.ranges n in
      let ir = domain_of u d n in
      let hr = are_coordinates r (reduction_point_is u.ranges n iu.domain.ranges) in
      let before = after_moved u d v v' alike are n in
      let typed_before = after_is a (take k a.functions) f is not_before calls answers v are u iu n in
      let test = hit_moved u d.0 d.1 iu r ir hr p hp inside in
      let right = right_moved u d.0 d.1 iu r ir hr p hp inside (value_after calls f v u n) (value_after others f' v' (change_cut a cut k f kept u) n) before typed_before in
      λ i. elim (test i) [ true ↦ right i | false ↦ before p hp inside i ]

  fold_moved : (us : List Change) → AllByRecursion Good us → (v v' : List ℤ → ℤ) → Alike v v' → ValuesAre f.ty v
      → Alike (fold (value_updated calls f) v us) (fold (value_updated others f') v' (map (change_cut a cut k f kept) us))
  fold_moved [] d v v' alike are = alike
  fold_moved (u ∷ us) d v v' alike are =
      fold_moved us d.1 (value_updated calls f v u) (value_updated others f' v' (change_cut a cut k f kept u)) (after_moved u d.0 v v' alike are (size u.ranges))
      (after_is a (take k a.functions) f is not_before calls answers v are u (update_of u d.0) (size u.ranges))

  pub value_moved : Alike (value calls f) (value others f')
  value_moved = fold_moved f.changes (all_from Good f.changes (λ u i q. (i, q))) (pure_value calls f) (pure_value others f') (λ p hp inside. pure_moved p hp inside)
      (pure_is a (take k a.functions) f is not_before calls answers)

  pub values_are : ValuesAre f.ty (value calls f)
  values_are = whole_is a (take k a.functions) f is not_before calls answers
