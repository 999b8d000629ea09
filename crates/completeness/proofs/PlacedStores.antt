-- What the stores of definitions owe: all of it is shown, where at each store each form is a number of 32 bits within the limits of forms, has a place in the function's buffer and lies in
-- the region of its claims, each left index that is no variable is shown to lie in its dimension, which the buffer and the claims have whole, and what is fetched holds the calls.
use Rattle.std.proofs.Common.{◌≡◌, ℕ, zero, suc, ◌+◌, ◌<◌, ◌≤◌, Bool, true, false, ◌&&◌, List, [], ◌∷◌, ◌++◌, length, map, take, drop, Option, Some, None, IsSome, refl, sym, ap, ◌∙◌, subst}
use Rattle.std.proofs.Common.{inl, inr, ◌⊎◌, arith, ◌||◌, append-nil, length-append}
use Rattle.std.specs.Prelude.{pos, negsuc, ◌+ℤ◌, ◌-ℤ◌}
use Rattle.sched.specs.declared.numbers.Extent.{Extent}
use Rattle.std.specs.Prelude.{◌==◌, if◌then◌else◌, string_bytes, slice_get, filter}
use Rattle.std.specs.List.{AllByRecursion, list_all, list_any, flat_map}
use Rattle.std.proofs.lemmas.List.{length-map, take-append-drop}
use Rattle.std.proofs.lemmas.Option.{slice_get_within}
use Rattle.numeric.specs.declared.ty.Ty.{Ty}
use Rattle.tree.specs.Term.{Term, Terms, Number, Name, Call, Minus, Binary, Clamp, Cast, Choice}
use Rattle.tree.specs.Uses.{EachCall, EachCallOfAll}
use Rattle.tree.specs.Typing.{index_count, type_of, answer_type}
use Rattle.tree.specs.Substitution.{all_with_calls, with_calls}
use Rattle.tree.proofs.Uses.{each_call-weaker}
use Rattle.lin.specs.Forms.{Form, is_within_limits, number}
use Rattle.lin.specs.declared.span.Span1.{Span1}
use Rattle.lin.specs.Search.{at_most}
use Rattle.lin.specs.declared.scope.Binding.{Binding}
use Rattle.plan.specs.declared.plan.Group.{Group as CodeGroup}
use Rattle.plan.specs.declared.stmt.Places.{Places}
use Rattle.plan.specs.declared.certificate.cert.Claim.{Claim as CodeClaim}
use Rattle.plan.specs.declared.certificate.cert.Need.{Need}
use Rattle.plan.specs.Plan.{Index, At, Found, Coordinate, Statement, Seq, For, Let, First, Guard, Alloc, Fetch, Store, Publish, Plan}
use Rattle.plan.specs.View.{group_of, plan_of, statement_of}
use Rattle.plan.specs.Lines.{lines, body_line}
use Rattle.plan.specs.Certificate.Certificate.{Claim, Certificate, certificate_of, claim_of}
use Rattle.plan.specs.Claimed.{claim_of as claim_named}
use Rattle.plan.specs.Semantics.Run.{Source, Input, ByClaim, claim_source}
use Rattle.meaning.specs.Algorithm.{Range, Function, Algorithm}
use Rattle.meaning.specs.Names.{same_name, is_among}
use Rattle.meaning.specs.Conditions.{AreDistinct, IsAlgorithm, callable, is_variable, has_variable}
use Rattle.meaning.specs.Inlining.Laws.{StaysCalled}
use Rattle.meaning.proofs.Calls.{callable_found, none_is_input}
use Rattle.meaning.proofs.InliningTyped.{answer-is}
use Rattle.soundness.specs.Claims.{In}
use Rattle.soundness.specs.Origins.{Outline}
use Rattle.soundness.specs.Given.{function_named, claim_or_none, outline_of}
use Rattle.soundness.specs.Obligations.{NotTheDefinition, Known, Rules, Obligation, Inside, obligation, seated, exactly, region_of, load_obligations, intervals, index_met, index_place}
use Rattle.soundness.specs.Obligations.{index_loads, variable_span, target_span, may_load, met, coordinate_loads, loads, places_of, NotClaimed, Updating, serves, claimed, obligations}
use Rattle.soundness.specs.Obligations.{index_span}
use Rattle.soundness.specs.Shown.{Nests, is_shown, shows, are_within, are_seated, start, is_within, is_seated}
use Rattle.soundness.specs.Binders.View.{grid_binders}
use Rattle.soundness.proofs.Refines.{name_refl, name_true, eq_refl, eq_true, and_parts}
use Rattle.algo.specs.Scoping.Standing.{Written, written as written_call, calls_of}
use Rattle.rules.specs.Bounding.Called.{called, call_of, source_call}
use Rattle.rules.specs.Bounding.Scopes.{scope_of}
use Rattle.rules.specs.Bounding.Rules.{is_index_span, rules_of}
use Rattle.rules.specs.Widths.Widths.{is_i32}
use Rattle.completeness.proofs.WideLines.{IsWideStore, StoresIntoOwn}
use Rattle.headline.proofs.Lists.{at_left, at_map, from_map}
use Rattle.sched.specs.Schedule.{Schedule}
use Rattle.sched.specs.Legal.{IsLegal, said, loops_after}
use Rattle.sched.specs.Subjects.{reductions_of}
use Rattle.sched.specs.declared.skeleton.Known.{Known as KnownForm}
use Rattle.sched.specs.Skeleton.{NestText, SkeletonText}
use Rattle.sched.specs.Standing.{form_named}
use Rattle.lower.specs.declared.lowering.Lowered.{Lowered}
use Rattle.sched.specs.Stored.{FormulaText, StoredText, left_at, are_calls_of, calls_left, calls_in}
use Rattle.regions.specs.Stored.{some_calls}
use Rattle.lower.specs.Stored.{stored_functions, has_large}
use Rattle.regions.specs.Faults.{are_whole}
use Rattle.lower.specs.Faults.{region_fault}
use Rattle.regions.specs.Regions.{missing_from, bodies_from}
use Rattle.sched.specs.Around.{AroundText, interval_in, form_span, around, range_names, ranges_of, names_with, grid_scope, head_scope, bind_steps, left_around, coordinates_behind}
use Rattle.sched.specs.Bounded.{whole}
use Rattle.blocks.specs.Bounded.{is_on_input, is_in_region, is_call_bounded, are_bounded, is_bounded}
use Rattle.sched.specs.Loading.{Loads, last_of, name_by, loaded_name, as_load}
use Rattle.blocks.specs.Blocks.{dimensions_of, claimed_region, own_places}
use Rattle.blocks.specs.Bodies.{IsStored, first_lines, IsStore, AreNests, IsIndex, AreCoordinates}
use Rattle.lower.specs.Bodies.{last_claim}
use Rattle.sched.specs.Bodies.{first_left, other_lefts}
use Rattle.sched.specs.Fetches.{Entry}
use Rattle.blocks.specs.Fetches.{FetchText}
use Rattle.lower.specs.Fetches.{is_fetched, fetched_groups}
use Rattle.sched.specs.Taken.{SiteText}
use Rattle.regions.specs.Taken.{add_calls, add_spans, sites_of}
use Rattle.lower.proofs.Extents.{region_is}
use Rattle.lower.specs.Groups.{HasBody, HasGroups}
use Rattle.blocks.proofs.Laying.{bound, same}
use Rattle.completeness.specs.Laws.{NamesNoLoad, AreLinesTold, IsStore as IsStoreLine}
use Rattle.completeness.specs.Owed.{EachLine, IsNameTest}
use Rattle.completeness.specs.Stores.{IsHeldPart, AreHeld}
use Rattle.completeness.proofs.Laid.{none_twice}
use Rattle.completeness.proofs.Owned.{some_same}
use Rattle.completeness.proofs.Served.{ls as regions_found, ready as all_ready}
use Rattle.completeness.proofs.Loaded.{Names, not_named, some_of, value_calls, left_calls}
use Rattle.completeness.proofs.Mentioned.{each_written, each_called}
use Rattle.completeness.proofs.ReadBack.{HasIf, last_has, source_is, calls_can}
use Rattle.completeness.proofs.Counts.{few_claims}
use Rattle.completeness.proofs.Written.{BackIf, IsOver, LeftIsOver, IsWritten, written}
use Rattle.completeness.proofs.PublishShown.{named_alike}
use Rattle.completeness.proofs.ClaimLines.{known_stored, named_here}
use Rattle.completeness.proofs.StoreLines.{ours, roots, lines_of, Holding, st, text, Ready, loaded, long_at, named_callable, input_callable, some_and, variables_are as coordinates_named}
use Rattle.completeness.proofs.Fresh.{all_flat}
use Rattle.completeness.proofs.InForce.{StoreAt, StoreHere, all_loads, Held as AreLoaded}
use Rattle.completeness.proofs.StoreNames.{FetchedBy, fetch_known, lines_weaker, body_stored, own_claim, own_long, at_place, own_known, own_function, loads_ready, IsLast, last_is, differs}
use Rattle.completeness.proofs.Left.{lines_paired}
use Rattle.completeness.proofs.StoreScopes.{BoundAt, BoundHere}
use Rattle.completeness.proofs.PlainTurns.{hits, hits_once, itself}
use Rattle.completeness.proofs.PureNests.{all_get, all_slices}
use Rattle.completeness.proofs.PureScopes.{map_both}
use Rattle.completeness.proofs.UpdateTurns.{known_update}
use Rattle.completeness.proofs.RegionBounds.{calls_bounded, input_bounded}
use Rattle.completeness.proofs.LoadedTerms.{Same, IsTypedCall, calls_typed, each_of, each_inner, each_both, parts}
use Rattle.completeness.proofs.StoreBounds.{AreAt, IsAt, called_is, index_bounds, targets_are, input_within, spans_same, intervals_long, Shows, CallShows, term_shows}
use Rattle.completeness.proofs.TakenSites.{IsFound, add_all, each_found, region_within, places_seat, all_held}
use Rattle.completeness.proofs.Bodies.{fetch_at, other_at, entry_at}
use Rattle.completeness.proofs.RisingForms.{cut_low}
use Rattle.completeness.proofs.SitesAt.{IsBoundedAt, bounded_at, IsSiteAt, site_at}
use Rattle.completeness.proofs.OwnLoads.{IsPoint, variable_bounds, span_at_place, among_at}
use Rattle.completeness.proofs.UncutOwn.{own_stays, own_keep}
use Rattle.completeness.proofs.SelfBounds.{form_self, number_below}
use Rattle.completeness.proofs.ClaimedNests.{named_over}
use Rattle.completeness.proofs.UnderWay.{HasLines, body_has_lines, NamedIn, AllNamed, each_named}
use Rattle.completeness.proofs.StoreLists.{taken_got, all_by, seated_by, within_by, prefix_same, last_alone, span_behind, split_spans, targets_behind}
use Rattle.completeness.proofs.StoreLists.{interval_nth, variable_nth, each_nth, typed_nth, region_nth, spans_agree, input_agrees}
use Rattle.numeric.specs.declared.ty.Ty.TheVariants.{I32}
use Rattle.numeric.specs.Wrap.{least, greatest}
use Rattle.std.proofs.lemmas.Int.{ints}
use Rattle.lin.specs.Regions.{span_inside}
use Rattle.bounds.specs.Spans.{range_of, numbers}
use Rattle.bounds.specs.Interval.{span_named}
use Rattle.plan.specs.declared.stmt.Places.TheVariants.{From}
use Rattle.meaning.proofs.Cases.{name_differs}
use Rattle.sched.specs.Skeleton.{BodyText, is_missing, variables_at}
use Rattle.sched.specs.Called.{called as called_there}
use Rattle.completeness.specs.Placed.{GoesOn, AreLeftsHeld, index_at, AreOwnHeld}
use Rattle.completeness.proofs.Defined.{missing_at}
use Rattle.completeness.proofs.RangedLefts.{left_got, interval_agrees, left_of_update, left_typed, lefts_few}

-- ---- forms

-- a form that a variable's name stands for in the definition of this number: of updates the claims' region is asked as well
pub record IsRightForm (Early : Type 0) (R : Rules) (known : Known) (place_of : List ℕ → Places) (claim_of_var : List ℕ → Span1) (d : ℕ) (x : List ℕ) (f : Form) : Type 0 where
  pub inside : Early → is_index_span (scope_of known.binders) (exactly f) ≡ true
  pub seated : is_seated R known.binders (exactly f) (place_of x) ≡ true
  pub within : 0 < d → is_within R known.binders (exactly f) (claim_of_var x) ≡ true
  pub kept : is_within_limits f ≡ true

-- what is known at the store of a nest
pub record IsReadyNest (Early : Type 0) (R : Rules) (fs : List FormulaText) (place_of : List ℕ → Places) (claim_of_var : List ℕ → Span1) (xs rn : List (List ℕ)) (d : ℕ) (w : NestText)
    (known : Known) : Type 0 where
  pub names : List KnownForm
  pub body : BodyText
  pub missing : (u : FormulaText) → slice_get fs d ≡ Some u → body.missing ≡ missing_from 0 u.at
  pub forms : w.at ≡ variables_at body 0 xs names ++ map (form_named names) rn
  pub each : (x : List ℕ) → In x xs → (f : Form) → form_named names x ≡ Some f → IsRightForm Early R known place_of claim_of_var d x f
  pub over : (x : List ℕ) → In x rn → (f : Form) → form_named names x ≡ Some f → is_index_span (scope_of known.binders) (exactly f) ≡ true

long_taken : {A : Type 0} (m : ℕ) (xs : List A) → m ≤ length xs → length (take m xs) ≡ m
long_taken zero xs le = refl
long_taken (suc m) [] le = absurd (omega (arith, le))
long_taken (suc m) (x ∷ xs) le = ap suc (long_taken m xs (omega (arith, le)))

-- each coordinate is found by its left index, or is a form of which this is so
module _ (ms : Loads) (ks : List KnownForm) (P : List ℕ → Form → Type 0) where
  abbrev IsFoundBy : Term → Coordinate → Type 0
  IsFoundBy t c = c.index ≡ Found (with_calls (as_load ms) t)

  abbrev IsFormed : List ℕ → Coordinate → Type 0
  IsFormed x c = (f : Form) × (c.index ≡ At f) × P x f

  -- the coordinate of a variable, at its place among the left indices
  abbrev IsPlace : List (Option Term) → ℕ → List ℕ → Coordinate → Type 0
  IsPlace lefts j x c =
      (IsFormed x c × ((t : Term) → slice_get lefts j ≡ Some (Some t) → ⊥)) ⊎ ((t : Term) × (slice_get lefts j ≡ Some (Some t)) × IsFoundBy t c)

  first_got : (lefts : List (Option Term)) (t : Term) → first_left lefts ≡ Some t → slice_get lefts 0 ≡ Some (Some t)
  first_got [] t e = absurd (cc e)
  first_got (o ∷ lefts) t e = ap (λ (z : Option Term). Some z) e

  later_got : (lefts : List (Option Term)) (j : ℕ) → slice_get (other_lefts lefts) j ≡ slice_get lefts (suc j)
  later_got [] j = refl
  later_got (o ∷ lefts) j = refl

  by_index : (x : List ℕ) (o : Option Form) (left : Option Term) (c : Coordinate) → ((f : Form) → o ≡ Some f → P x f) → IsIndex ms o left c.index →
      (IsFormed x c × (f : Form) × (o ≡ Some f)) ⊎ ((t : Term) × (left ≡ Some t) × IsFoundBy t c)
  by_index x o left c k q = of o left c.index refl k q
    where
      of : (o : Option Form) (left : Option Term) (i : Index) → c.index ≡ i → ((f : Form) → o ≡ Some f → P x f) → IsIndex ms o left i →
          (IsFormed x c × (f : Form) × (o ≡ Some f)) ⊎ ((t : Term) × (left ≡ Some t) × IsFoundBy t c)
      of (Some f) left (At g) is k q = inl ((f, is ∙ ap (λ (u : Form). At u) q, k f refl), f, refl)
      of (Some f) left (Found t) is k q = absurd q
      of None left (At g) is k q = absurd q
      of None None (Found t) is k q = absurd q
      of None (Some u) (Found t) is k q = inr (u, refl, is ∙ ap (λ (z : Term). Found z) q)

  place_at : (b : BodyText) (d : ℕ) (xs ys : List (List ℕ)) (os : List (Option Form)) (lefts : List (Option Term)) (cs : List Coordinate) →
      AreCoordinates ms (xs ++ ys) (variables_at b d xs ks ++ os) lefts cs → ((x : List ℕ) → In x xs → (f : Form) → form_named ks x ≡ Some f → P x f) →
      ((j : ℕ) (t : Term) → slice_get lefts j ≡ Some (Some t) → is_missing b (d + j) ≡ true) → (j : ℕ) (x : List ℕ) (c : Coordinate) → slice_get xs j ≡ Some x → slice_get cs j ≡ Some c →
      IsPlace lefts j x c
  place_at b d [] ys os lefts cs h each gone j x c at_x at_c = absurd (cc at_x)
  place_at b d (y ∷ xs) ys os lefts [] h each gone j x c at_x at_c = absurd h
  place_at b d (y ∷ xs) ys os lefts (e ∷ cs) h each gone zero x c at_x at_c =
      subst (λ (z : List ℕ). IsPlace lefts 0 z c) (same y x at_x) (subst (IsPlace lefts 0 y) (same e c at_c) (of (is_missing b d) refl h.1))
    where
      none : d + 0 ≡ d
      none = omega arith

      of : (v : Bool) → is_missing b d ≡ v → IsIndex ms (if v then None else form_named ks y) (first_left lefts) e.index → IsPlace lefts 0 y e
      of true is q = elim (by_index y None (first_left lefts) e (λ f k. absurd (cc k)) q) [
        | inl z ↦ absurd (cc (z.2))
        | inr (t, left, found_by) ↦ inr (t, first_got lefts t left, found_by)
      ]
      of false is q = elim (by_index y (form_named ks y) (first_left lefts) e (each y (inl refl)) q) [
        | inl z ↦ inl (z.0, (λ t at_t. let clash : true ≡ false = sym (gone 0 t at_t) ∙ ap (is_missing b) none ∙ is in cc clash))
        | inr (t, left, found_by) ↦ inr (t, first_got lefts t left, found_by)
      ]
  place_at b d (y ∷ xs) ys os lefts (e ∷ cs) h each gone (suc j) x c at_x at_c =
      let rest = place_at b (d + 1) xs ys os (other_lefts lefts) cs h.2 (λ z m. each z (inr m))
      (λ i t at_t. let next : (d + 1) + i ≡ d + suc i = omega arith in ap (is_missing b) next ∙ gone (suc i) t (sym (later_got lefts i) ∙ at_t)) j x c at_x at_c in
      elim rest [
        | inl z ↦ inl (z.0, (λ t at_t. z.1 t (later_got lefts j ∙ at_t)))
        | inr z ↦ inr (z.0, sym (later_got lefts j) ∙ z.1, z.2)
      ]

  -- each coordinate behind these is a form
  abbrev EachForm : List (List ℕ) → List Coordinate → Type 0
  EachForm [] [] = Unit {0}
  EachForm [] (c ∷ cs) = ⊥
  EachForm (x ∷ xs) [] = ⊥
  EachForm (x ∷ xs) (c ∷ cs) = IsFormed x c × EachForm xs cs

  no_lefts : (lefts : List (Option Term)) → length lefts ≤ 0 → (first_left lefts ≡ None) × (length (other_lefts lefts) ≤ 0)
  no_lefts [] le = (refl, omega arith)
  no_lefts (o ∷ lefts) le = absurd (omega (arith, le))

  all_forms : (xs : List (List ℕ)) (lefts : List (Option Term)) (cs : List Coordinate) → length lefts ≤ 0 → ((x : List ℕ) → In x xs → (f : Form) → form_named ks x ≡ Some f → P x f) →
      AreCoordinates ms xs (map (form_named ks) xs) lefts cs → EachForm xs cs
  all_forms [] lefts [] le each h = tt
  all_forms [] lefts (c ∷ cs) le each h = absurd h
  all_forms (x ∷ xs) lefts [] le each h = absurd h
  all_forms (x ∷ xs) lefts (c ∷ cs) le each h =
      let none = no_lefts lefts le in (
        elim (by_index x (form_named ks x) (first_left lefts) c (each x (inl refl)) h.1) [
          | inl z ↦ z.0
          | inr (t, left, found_by) ↦ (let clash : None ≡ Some t = sym none.0 ∙ left in absurd (cc clash))
        ],
        all_forms xs (other_lefts lefts) cs none.1 (λ y m. each y (inr m)) h.2,
      )

  forms_behind : (b : BodyText) (d : ℕ) (xs ys : List (List ℕ)) (lefts : List (Option Term)) (cs : List Coordinate) → length lefts ≤ length xs →
      ((x : List ℕ) → In x ys → (f : Form) → form_named ks x ≡ Some f → P x f) → AreCoordinates ms (xs ++ ys) (variables_at b d xs ks ++ map (form_named ks) ys) lefts cs →
      EachForm ys (drop (length xs) cs)
  forms_behind b d [] ys lefts cs le each h = subst (EachForm ys) (all_of cs) (all_forms ys lefts cs le each h)
    where
      all_of : (cs : List Coordinate) → cs ≡ drop 0 cs
      all_of [] = refl
      all_of (c ∷ cs) = refl
  forms_behind b d (x ∷ xs) ys lefts [] le each h = absurd h
  forms_behind b d (x ∷ xs) ys lefts (c ∷ cs) le each h = forms_behind b (d + 1) xs ys (other_lefts lefts) cs (fewer lefts le) each h.2
    where
      fewer : (os : List (Option Term)) → length os ≤ suc (length xs) → length (other_lefts os) ≤ length xs
      fewer [] le = omega arith
      fewer (o ∷ os) le = omega (arith, le)

  forms_at : (xs : List (List ℕ)) (cs : List Coordinate) → EachForm xs cs → AreAt cs
  forms_at [] [] h = tt
  forms_at [] (c ∷ cs) h = absurd h
  forms_at (x ∷ xs) [] h = absurd h
  forms_at (x ∷ xs) (c ∷ cs) h = (subst IsAt (sym h.0.1) tt, forms_at xs cs h.1)

  module _ (O : Outline) (R : Rules) (scope : List Binding) (inside : (x : List ℕ) (f : Form) → P x f → is_index_span scope (exactly f) ≡ true) where
    forms_inside : (xs : List (List ℕ)) (cs : List Coordinate) → EachForm xs cs → list_all (is_index_span scope) (map (variable_span O R) cs) ≡ true
    forms_inside [] [] h = refl
    forms_inside [] (c ∷ cs) h = absurd h
    forms_inside (x ∷ xs) [] h = absurd h
    forms_inside (x ∷ xs) (c ∷ cs) h =
        let here : is_index_span scope (index_span O R c.index) ≡ true = ap (λ (i : Index). is_index_span scope (index_span O R i)) h.0.1 ∙ inside x h.0.0 h.0.2 in
        let rest = forms_inside xs cs h.1 in
        λ j. here j && rest j

list_both : (p : Span1 → Bool) (xs ys : List Span1) → list_all p xs ≡ true → list_all p ys ≡ true → list_all p (xs ++ ys) ≡ true
list_both p [] ys h k = k
list_both p (x ∷ xs) ys h k =
    (let both_so = and_parts (p x) (list_all p xs) h in let here = both_so.0 in let rest = list_both p xs ys both_so.1 k in λ i. here i && rest i)

calls_at : (P : List ℕ → Terms → Type 0) (os : List (Option Term)) (j : ℕ) (e : Term) → slice_get os j ≡ Some (Some e) → AllByRecursion (λ (c : Written). P c.name c.at) (flat_map calls_left os) →
    AllByRecursion (λ (c : Written). P c.name c.at) (calls_of e)
calls_at P [] j e at h = absurd (cc at)
calls_at P (o ∷ os) zero e at h =
    let both_so = parts P (calls_left o) (flat_map calls_left os) h in
    subst (λ (v : Option Term). AllByRecursion (λ (c : Written). P c.name c.at) (calls_left v)) (same o (Some e) at) both_so.0
calls_at P (o ∷ os) (suc j) e at h = calls_at P os j e at (parts P (calls_left o) (flat_map calls_left os) h).1

is_name : (x : List ℕ) (t : Term) → is_variable x t ≡ true → t ≡ Name x
is_name x (Number t n) q = absurd (cc q)
is_name x (Name y) q = ap (λ (z : List ℕ). Name z) (sym (name_true x y q))
is_name x (Call y at) q = absurd (cc q)
is_name x (Minus b) q = absurd (cc q)
is_name x (Binary op b c) q = absurd (cc q)
is_name x (Clamp b l u) q = absurd (cc q)
is_name x (Cast t b) q = absurd (cc q)
is_name x (Choice c b d) q = absurd (cc q)

second : (t : Ty) (n : ℕ) (s : Ty × ℕ) → Some (t, n) ≡ Some s → n ≡ s.1
second t n s e = (let same_pair : (t, n) ≡ s = cc e in ap (λ (y : Ty × ℕ). y.1) same_pair)

zero_inside : (scope : List Binding) → is_index_span scope (exactly (number (pos 0))) ≡ true
zero_inside scope =
    let low : at_most scope (number (least I32)) (number (pos 0)) ≡ true = number_below scope (negsuc 2147483647) (pos 0) (omega (arith, ints)) (omega (arith, ints)) (omega (arith, ints)) in
    let high : at_most scope (number (pos 0)) (number (greatest I32)) ≡ true = number_below scope (pos 0) (pos 2147483647) (omega (arith, ints)) (omega (arith, ints)) (omega (arith, ints)) in
    λ k. ((low k || false) && true) && ((high k || false) && true)

-- ---- groups

module _ (a : Algorithm) (sch : Schedule) (l : Lowered) (well : IsAlgorithm a) (legal : IsLegal a sch) (small : has_large (stored_functions a sch) ≡ false)
    (kept : region_fault a (stored_functions a sch) ≡ None) (all : are_whole (stored_functions a sch) ≡ true) (groups : HasGroups a (stored_functions a sch) l) (told : AreLinesTold (plan_of l.plan))
    (free : NamesNoLoad a) where
  abbrev mine : List CodeClaim
  mine = ours a sch l well legal small kept all groups told free

  abbrev entries : List Entry
  entries = roots a sch l well legal small kept all groups told free

  abbrev IsHolding : ℕ → CodeGroup → List ℕ → ℕ → Type 0
  IsHolding n q = Holding a sch l well legal small kept all groups told free (lines_of a sch l well legal small kept all groups told free n q)

  abbrev texts : Function → StoredText
  texts f = text a sch l well legal small kept all groups told free f

  abbrev flags_of : List Bool
  flags_of = st a sch l well legal small kept all groups told free

  abbrev plan : Plan
  plan = plan_of l.plan

  abbrev cert : Certificate
  cert = certificate_of l.certificate

  module _ (n : ℕ) (q : CodeGroup) (place : ℕ) (f : Function) (at : slice_get a.functions place ≡ Some f) (there : slice_get (stored_functions a sch) n ≡ Some (texts f)) (first line : ℕ)
      (claims : List CodeClaim) (needs : List Need) (theirs : slice_get l.plan.groups.items n ≡ Some q) (h : HasBody a entries n first line (texts f) q claims needs)
      (hold : (j : ℕ) (w : CodeClaim) → slice_get claims j ≡ Some w → IsHolding n q (string_bytes w.function) (first + j))
      (numbered : (j : ℕ) (v : CodeClaim) → slice_get claims j ≡ Some v → slice_get mine (first + j) ≡ Some v) (lined : body_line plan n ≡ line + 1)
      (alone_here : (j : ℕ) (w : CodeClaim) → slice_get mine j ≡ Some w → line < w.line → w.line < line + (lines (statement_of q.body) + 1) → In w claims)
      (bounded : is_bounded a (texts f) (head_scope h.skeleton) (map whole h.extents) 0 h.formulas h.skeleton.nests ≡ Some true)
      (lefts : AreLeftsHeld a (texts f) h.formulas h.extents h.skeleton) (owns_held : AreOwnHeld a (texts f) h.formulas h.extents h.skeleton)
      (held_parts : AreHeld a (stored_functions a sch) n (texts f) h.formulas h.skeleton) (place_of : List ℕ → Places) (claim_of_var : List ℕ → Span1)
      (places_are : own_places (dimensions_of (texts f) h.extents h.skeleton) ≡ map place_of f.variables)
      (claims_are : claimed_region (dimensions_of (texts f) h.extents h.skeleton) ≡ map claim_of_var f.variables)
      (whole_dims : (j d : ℕ) (u : FormulaText) (e : Term) (x : List ℕ) (z : Extent) → slice_get h.formulas d ≡ Some u → slice_get u.at j ≡ Some (Some e) → slice_get f.variables j ≡ Some x →
      slice_get h.extents j ≡ Some z → (y : Extent) × GoesOn z y × (place_of x ≡ From (number y.low) y.count) × (claim_of_var x ≡ whole y)) (long_extents : length h.extents ≡ length f.variables)
      (dims_are : (outline_of plan cert n (group_of q)).setting.dimensions 0 ≡ length f.variables)
      (Early : Type 0) (ready_nest : (d : ℕ) (w : NestText) → slice_get h.skeleton.nests d ≡ Some w → (known : Known) → scope_of known.binders ≡ bind_steps (head_scope h.skeleton) w.steps →
      IsReadyNest Early (rules_of a plan cert n) h.formulas place_of claim_of_var f.variables (range_names (ranges_of f.changes d)) d w known)
      (bound_all : EachLine (outline_of plan cert n (group_of q)) (rules_of a plan cert n)
      (λ s i y. BoundHere (texts f) h.formulas h.skeleton.nests (own_places (dimensions_of (texts f) h.extents h.skeleton)) (head_scope h.skeleton) s i y) (statement_of q.body) (body_line plan n)
      (start (grid_binders q.grid.items))) where
    abbrev k : SkeletonText
    k = h.skeleton

    abbrev fs : List FormulaText
    fs = h.formulas

    abbrev g : StoredText
    g = texts f

    abbrev xs : List (List ℕ)
    xs = f.variables

    abbrev fetches : List FetchText
    fetches = h.body.fetches

    abbrev places : List Places
    places = own_places (dimensions_of g h.extents k)

    abbrev region : List Span1
    region = claimed_region (dimensions_of g h.extents k)

    abbrev regions : List Span1
    regions = map whole h.extents

    abbrev first_own : ℕ
    first_own = first + length fetches

    abbrev O : Outline
    O = outline_of plan cert n (group_of q)

    abbrev R : Rules
    R = rules_of a plan cert n

    abbrev F : List ℕ
    F = O.setting.buffer_function 0

    -- ---- the regions of its claims

    claims_over : (us : List FormulaText) (r : List Span1) (ms : Loads) (m at_line d : ℕ) (ns : List NestText) (ss : List Statement) (cs : List CodeClaim) → AreNests g us r ms m at_line d ns ss cs →
        (j : ℕ) (v : CodeClaim) → slice_get cs j ≡ Some v → v.region ≡ r
    claims_over us r ms m at_line d [] ss cs is j v e = absurd (cc (is.1, e))
    claims_over us r ms m at_line d (w ∷ ns) ss [] is j v e = absurd is
    claims_over us r ms m at_line d (w ∷ ns) ss (c ∷ cs) is zero v e = ap (λ (x : CodeClaim). x.region) (sym (same c v e)) ∙ is.here.claims.over
    claims_over us r ms m at_line d (w ∷ ns) ss (c ∷ cs) is (suc j) v e =
        claims_over us r (ms ++ (g.subject.name, m) ∷ []) (m + 1) _ (d + 1) ns is.others cs is.behind j v e

    own_over : (d : ℕ) → d < length k.nests → (O.claim (first_own + d)).region ≡ region
    own_over d less =
        let same_long = own_long a sch l well legal small kept all groups told free n q place f at there first line claims needs theirs h hold numbered lined in
        let v = at_place h.body.own d (omega (arith, same_long, less)) in
        let stands = own_claim a sch l well legal small kept all groups told free n q place f at there first line claims needs theirs h hold numbered lined d v.0 v.1 in
        let claim : O.claim (first_own + d) ≡ claim_of v.0 = ap claim_or_none (at_map claim_of mine (first_own + d) v.0 stands) in
        ap (λ (c : Claim). c.region) claim ∙ claims_over fs _ _ _ _ 0 k.nests h.body.nests h.body.own h.body.nested d v.0 v.1

    -- ---- reduction variables, and left indices that are no variables

    distinct_at : (d : ℕ) (u : FormulaText) → slice_get fs d ≡ Some u → AreDistinct (names_with f.variables f.changes d)
    distinct_at zero u defined = subst AreDistinct (sym (append-nil f.variables)) (well.functions place f at).names
    distinct_at (suc i) u defined =
        let v = known_update a sch well n g there fs h.defined i u defined in
        subst (λ (ds : List Range). AreDistinct (f.variables ++ range_names ds)) (sym v.ranges) v.names

    -- variables at their places in calls of the function itself
    abbrev Keeping : List (Option Term) → List ℕ → Terms → Type 0
    Keeping os name args =
        name ≡ f.name → (j : ℕ) (x : List ℕ) → slice_get f.variables j ≡ Some x → ((t : Term) → slice_get os j ≡ Some (Some t) → ⊥) → has_variable x j args ≡ true

    owns : (d : ℕ) (u : FormulaText) → slice_get fs d ≡ Some u → (e : ℕ) → d ≡ suc e → EachCall (Keeping u.at) u.value
    owns d u defined e is = own_keep a well place f at flags_of (own_stays a sch well n g there) fs h.defined e u (ap (slice_get fs) (sym is) ∙ defined)

    -- ---- a nest

    -- each coordinate that is a form is shown to be an i32
    abbrev AreFit : Known → List Coordinate → Type 0
    AreFit known cs = (j : ℕ) (c : Coordinate) (f : Form) → slice_get cs j ≡ Some c → c.index ≡ At f → is_index_span (scope_of known.binders) (exactly f) ≡ true

    module _ (d : ℕ) (w : NestText) (stands : slice_get k.nests d ≡ Some w) (u : FormulaText) (defined : slice_get fs d ≡ Some u) where
      abbrev ms : Loads
      ms = all_loads g fs k.nests places fetches first d

      less : d < length k.nests
      less = slice_get_within k.nests d w stands

      ready : Ready a sch l well legal small kept all groups told free n q place f at there first line claims needs theirs h hold d ms
      ready = loads_ready a sch l well legal small kept all groups told free n q place f at there first line claims needs theirs h hold numbered lined d less

      -- what is loaded is of the type of what is called, and is the input where that is called
      abbrev IsKind : Option ℕ → Source → Type 0
      IsKind o s = ((c : ℕ) × (o ≡ Some c) × (s ≡ ByClaim c)) ⊎ (s ≡ Input)

      source_at : (x : List ℕ) (o : Option ℕ) → last_of None ms x ≡ o → HasIf (IsHolding n q) x o → IsSome (callable a a.functions x) → StaysCalled a flags_of x → some_calls x fs ≡ true →
          BackIf a well flags_of place f at d x →
          (source_call a plan cert (O.source (name_by o x)) ≡ callable a a.functions x) × (O.source (name_by o x) ≡ Input → x ≡ a.input) × IsKind o (O.source (name_by o x))
      source_at x (Some c) e by can stays called_here back =
          let source : O.source (64 ∷ _) ≡ ByClaim c =
          source_is a free plan cert n (group_of q) groups.head.input.named mine refl (let few = few_claims a sch l well legal small kept all groups in omega (arith, few)) [] tt c
          (slice_get_within mine c by.claim by.at) in
          let claim : slice_get cert.claims c ≡ Some (claim_of by.claim) = at_map claim_of mine c by.claim by.at in
          let named : function_named a.functions (string_bytes by.claim.function) ≡ Some by.function = ap (function_named a.functions) by.named ∙ named_alike a.functions x ∙ by.known in (
            ap (source_call a plan cert) source ∙ ap (λ (o : Option Claim). call_of (function_named a.functions (claim_or_none o).function)) claim ∙ ap call_of named
                ∙ sym (named_callable a a.functions x by.function by.known),
            (λ is. let clash : ByClaim c ≡ Input = sym source ∙ is in absurd (cc clash)),
            inl (c, refl, source),
          )
      source_at x None e by can stays called_here back = elim (callable_found a a.functions x can) [
        | inl input ↦
            (let name : same_name x plan.input.name ≡ true = ap (λ (y : List ℕ). same_name y plan.input.name) (input ∙ sym groups.head.input.named) ∙ name_refl plan.input.name in
            let source : O.source x ≡ Input = ap (λ (b : Bool). if b then Input else claim_source (length cert.claims) (claim_named x)) name in
            (ap (source_call a plan cert) source ∙ sym (ap (callable a a.functions) input ∙ input_callable a a.functions (none_is_input a well.names)), (λ is. input), inr source))
        | inr z ↦ absurd (not_named ms x e (subst (Names ms) z.3 (loaded a sch l well legal small kept all groups told free n q place f at there first line claims needs theirs h hold d ms
            ready z.0 z.1 z.2 (subst (StaysCalled a flags_of) (sym z.3) stays) (ap (λ (y : List ℕ). some_calls y fs) z.3 ∙ called_here)
            (subst (BackIf a well flags_of place f at d) (sym z.3) back))))
      ]

      abbrev rn : List (List ℕ)
      rn = range_names (ranges_of f.changes d)

      -- a left index that is no variable, over the reduction variables alone, and over all names; it does not call the function
      record IsLeftOf (e : Term) : Type 0 where
        typed : type_of (is_among rn) (called_there a) e ≡ Some I32
        wide : type_of (is_among (f.variables ++ rn)) (callable a a.functions) e ≡ Some I32
        others : EachCall (λ name at. name ≡ f.name → ⊥) e

      left_of : (j : ℕ) (e : Term) → slice_get u.at j ≡ Some (Some e) → IsLeftOf e
      left_of j e at_j =
          let types = left_typed a well place f at flags_of fs h.defined d u defined j e at_j in
          let x = left_of_update a well place f at flags_of fs h.defined d u defined j e at_j in
          record { typed = ap (λ (c : List ℕ → Option (Ty × ℕ)). type_of (is_among rn) c e) (called_is a) ∙ types.0; wide = types.1; others = x.2.others }

      -- ---- a store

      module _ (nests : Nests) (at_line : ℕ) (known : Known) (cs : List Coordinate) (e : Term) (stores : IsStore g fs ms d w (Store 0 d cs e))
          (is : IsStored ms (names_with f.variables f.changes d) w cs e u) (scoped : scope_of known.binders ≡ bind_steps (head_scope k) w.steps)
          (held_here : AreLoaded g fs k.nests places fetches first known) (own_here : places_of known.buffers 0 ≡ Some places)
          (under : AllByRecursion (λ v. NamedIn O R (line + 1) (line + (lines (statement_of q.body) + 1)) v.next) known.updating) (fit : Early ⊎ AreFit known cs) where
        abbrev m : ℕ
        m = O.setting.dimensions 0

        abbrev at' : List Coordinate
        at' = take m cs

        abbrev over : List Coordinate
        over = drop m cs

        abbrev names : List (List ℕ)
        names = map (λ (c : Coordinate). c.variable) (at' ++ over)

        abbrev left : List Span1
        left = map (variable_span O R) (at' ++ over)

        -- the span where a coordinate stores
        abbrev T : Coordinate → Span1
        T c = target_span O R known names left c

        abbrev vars : List Span1
        vars = map T at' ++ map (variable_span O R) over

        abbrev N : List (List ℕ)
        N = names_with f.variables f.changes d

        abbrev scope : List Binding
        scope = scope_of known.binders

        nest_ready : IsReadyNest Early R fs place_of claim_of_var f.variables rn d w known
        nest_ready = ready_nest d w stands known scoped

        fb : IsBoundedAt a g (head_scope k) regions d u w
        fb =
            let none : 0 + d ≡ d = omega arith in
            let from_first = bounded_at a g (head_scope k) regions 0 fs k.nests bounded d u w defined stands in
            subst (λ (j : ℕ). IsBoundedAt a g (head_scope k) regions j u w) none from_first

        abbrev plain_left : AroundText
        plain_left = left_around g (head_scope k) w d

        spans : (zs : List Span1) × (coordinates_behind a plain_left u [] 0 w.at ≡ Some zs) × (record plain_left { coordinates = zs } ≡ fb.known)
        spans =
            let c = bound (coordinates_behind a plain_left u [] 0 w.at) (λ zs. Some (record plain_left { coordinates = zs })) fb.known fb.is in
            (c.value, c.is, same (record plain_left { coordinates = c.value }) fb.known c.comes)

        abbrev zs : List Span1
        zs = spans.0

        -- what is known around the store, and what the checker knows where it looks at left indices
        abbrev r : AroundText
        r = record plain_left { coordinates = zs }

        abbrev rl : AroundText
        rl = record plain_left { coordinates = left }

        stands_r : around a g (head_scope k) w u d ≡ Some r
        stands_r = fb.is ∙ ap (λ (t : AroundText). Some t) (sym spans.2)

        bounded_r : are_bounded a r u regions g.subject.name (calls_in u) ≡ Some true
        bounded_r = subst (λ (t : AroundText). are_bounded a t u regions g.subject.name (calls_in u) ≡ Some true) (sym spans.2) fb.bounded

        together : at' ++ over ≡ cs
        together = take-append-drop m cs

        names_here : map (λ (c : Coordinate). c.variable) cs ≡ N
        names_here =
            coordinates_named ms N w.at u.at cs is.at
            (long_at a sch l well legal small kept all groups told free n q place f at there first line claims needs theirs h hold d w stands)

        names_text : names ≡ N
        names_text = ap (map (λ (c : Coordinate). c.variable)) together ∙ names_here

        names_all : names ≡ f.variables ++ rn
        names_all = names_text

        -- ---- coordinates

        coordinates_here : AreCoordinates ms (f.variables ++ rn) (variables_at nest_ready.body 0 xs nest_ready.names ++ map (form_named nest_ready.names) rn) u.at cs
        coordinates_here = subst (λ (os : List (Option Form)). AreCoordinates ms (f.variables ++ rn) os u.at cs) nest_ready.forms is.at

        abbrev IsRight : List ℕ → Form → Type 0
        IsRight x c = IsRightForm Early R known place_of claim_of_var d x c

        abbrev IsInside : List ℕ → Form → Type 0
        IsInside x c = is_index_span scope (exactly c) ≡ true

        gone_at : (j : ℕ) (t : Term) → slice_get u.at j ≡ Some (Some t) → is_missing nest_ready.body (0 + j) ≡ true
        gone_at j t at_j = ap (λ (es : List ℕ). list_any (λ x. x == 0 + j) es) (nest_ready.missing u defined) ∙ missing_at u.at 0 j t at_j

        -- a coordinate at a place: a form, or found by the left index there
        abbrev IsAtPlace : ℕ → List ℕ → Coordinate → Type 0
        IsAtPlace j x c = IsPlace ms nest_ready.names IsRight u.at j x c

        dims_here : m ≡ length xs
        dims_here = dims_are

        placed_of : (j : ℕ) (x : List ℕ) (c : Coordinate) → slice_get xs j ≡ Some x → slice_get at' j ≡ Some c → IsAtPlace j x c
        placed_of j x c at_x at_c =
            place_at ms nest_ready.names IsRight nest_ready.body 0 f.variables rn (map (form_named nest_ready.names) rn) u.at cs coordinates_here nest_ready.each gone_at j x c at_x
            (taken_got m cs j c at_c)

        all_over : EachForm ms nest_ready.names IsInside rn (drop (length xs) cs)
        all_over = forms_behind ms nest_ready.names IsInside nest_ready.body 0 f.variables rn u.at cs (lefts_few a well place f at flags_of fs h.defined d u defined) nest_ready.over coordinates_here

        over_is : over ≡ drop (length xs) cs
        over_is = ap (λ (j : ℕ). drop j cs) dims_here

        over_forms : AreAt over
        over_forms = subst AreAt (sym over_is) (forms_at ms nest_ready.names IsInside rn (drop (length xs) cs) all_over)

        over_inside : list_all (is_index_span scope) (map (variable_span O R) over) ≡ true
        over_inside =
            ap (λ (es : List Coordinate). list_all (is_index_span scope) (map (variable_span O R) es)) over_is
            ∙ forms_inside ms nest_ready.names IsInside O R scope (λ x c z. z) rn (drop (length xs) cs) all_over

        at_long : length at' ≡ length xs
        at_long =
            let many : length cs ≡ length (f.variables ++ rn) = sym (length-map cs (λ (c : Coordinate). c.variable)) ∙ ap length names_here in
            let parts_long = length-append f.variables rn in
            ap (λ (j : ℕ). length (take j cs)) dims_here ∙ long_taken (length f.variables) cs (omega (arith, many, parts_long))

        -- the coordinate at a place has a variable
        placed_at : (j : ℕ) (c : Coordinate) → slice_get at' j ≡ Some c → (x : List ℕ) × (slice_get xs j ≡ Some x) × IsAtPlace j x c
        placed_at j c at_c =
            let less_j = slice_get_within at' j c at_c in
            let many = at_long in
            let x = at_place xs j (omega (arith, less_j, many)) in
            (x.0, x.1, placed_of j x.0 c x.1 at_c)

        -- ---- names of reduction variables

        name_firsts : map (λ (c : Coordinate). c.variable) at' ≡ xs
        name_firsts =
            let variables : map (λ (c : Coordinate). c.variable) at' ++ map (λ (c : Coordinate). c.variable) over ≡ xs ++ rn = sym (map_both (λ (c : Coordinate). c.variable) at' over) ∙ names_all in
            (prefix_same (map (λ (c : Coordinate). c.variable) at') (map (λ (c : Coordinate). c.variable) over) xs rn variables (length-map at' (λ (c : Coordinate). c.variable) ∙ at_long)).0

        behind : (ss : List Span1) (x : List ℕ) → length at' ≡ length ss → is_among rn x ≡ true →
            span_named names (ss ++ map (variable_span O R) over) x ≡ span_named (map (λ (c : Coordinate). c.variable) over) (map (variable_span O R) over) x
        behind ss x many among =
            let ns = map (λ (c : Coordinate). c.variable) at' in
            let none : is_among ns x ≡ false = ap (λ (ys : List (List ℕ)). is_among ys x) name_firsts ∙ last_alone xs rn (distinct_at d u defined) x among in
            ap (λ (ys : List (List ℕ)). span_named ys (ss ++ map (variable_span O R) over) x) (map_both (λ (c : Coordinate). c.variable) at' over)
            ∙ span_behind ns (map (λ (c : Coordinate). c.variable) over) ss (map (variable_span O R) over) x (length-map at' (λ (c : Coordinate). c.variable) ∙ many) none

        left_parts : left ≡ map (variable_span O R) at' ++ map (variable_span O R) over
        left_parts = map_both (variable_span O R) at' over

        of_left : (x : List ℕ) → is_among rn x ≡ true → span_named names left x ≡ span_named (map (λ (c : Coordinate). c.variable) over) (map (variable_span O R) over) x
        of_left x among =
            ap (λ (ss : List Span1). span_named names ss x) left_parts ∙ behind (map (variable_span O R) at') x (sym (length-map at' (variable_span O R))) among

        plain_same : (x : List ℕ) → is_among rn x ≡ true → span_named N (map form_span w.at) x ≡ span_named N left x
        plain_same x among =
            let part = split_spans O R ms m w.at N u.at cs is.at over_forms in
            let here : span_named names (map form_span w.at) x ≡ span_named names left x =
            ap (λ (ss : List Span1). span_named names ss x) part.1 ∙ behind part.0 x part.2 among ∙ sym (of_left x among) in
            subst (λ (ys : List (List ℕ)). span_named ys (map form_span w.at) x ≡ span_named ys left x) names_text here

        vars_same : (x : List ℕ) → is_among rn x ≡ true → span_named N vars x ≡ span_named N left x
        vars_same x among =
            let here : span_named names vars x ≡ span_named names left x = behind (map T at') x (sym (length-map at' T)) among ∙ sym (of_left x among) in
            subst (λ (ys : List (List ℕ)). span_named ys vars x ≡ span_named ys left x) names_text here

        agree_plain : (t : Term) (ty : Ty) → type_of (is_among rn) (called_there a) t ≡ Some ty → interval_in a plain_left t ≡ interval_in a rl t
        agree_plain t ty typed = interval_agrees plain_left.scope (called_there a) N N (map form_span w.at) left (is_among rn) plain_same t ty typed

        -- ---- left indices

        y : IsWritten a well flags_of place f at d u
        y = written a well flags_of place f at fs h.defined d u defined

        names_written : is_among y.names ≡ is_among names
        names_written = ap is_among (sym y.are ∙ sym names_text)

        abbrev IsTyped : List ℕ → Terms → Type 0
        IsTyped = IsTypedCall (is_among names) (callable a a.functions)

        abbrev IsNarrow : List ℕ → Terms → Type 0
        IsNarrow = IsTypedCall (is_among rn) (called_there a)

        abbrev IsSame : List ℕ → Terms → Type 0
        IsSame = Same (called a plan cert) (callable a a.functions) ms

        abbrev IsBoundedCall : List ℕ → Terms → Type 0
        IsBoundedCall x es = is_call_bounded a r u regions g.subject.name (written_call x es) ≡ Some true

        abbrev SourceIs : List ℕ → Terms → Type 0
        SourceIs x es =
            (called a plan cert (loaded_name ms x) ≡ callable a a.functions x) × (O.source (loaded_name ms x) ≡ Input → x ≡ a.input)
            × IsKind (last_of None ms x) (O.source (loaded_name ms x))

        sources_of : (t : Term) → IsOver a well flags_of place f at y.names d t → ((x : List ℕ) → are_calls_of x (calls_of t) ≡ true → are_calls_of x (calls_in u) ≡ true) → EachCall SourceIs t
        sources_of t o among =
            let C : List ℕ → Terms → Type 0 = λ x es. IsSome (callable a a.functions x) in
            let S : List ℕ → Terms → Type 0 = λ x es. StaysCalled a flags_of x in
            let Q : List ℕ → Type 0 = λ x. some_calls x fs ≡ true in
            let B : List ℕ → Terms → Type 0 = λ x es. BackIf a well flags_of place f at d x in
            let can = calls_can (is_among y.names) (callable a a.functions) t o.ty o.typed in
            let some = each_written Q t (each_called Q (calls_of t) (λ x z. some_of x fs d u defined (among x z))) in
            let left_two = each_both C S t can o.stays in
            let right_two = each_both (λ x es. Q x) B t some o.back in
            let four = each_both (λ x es. C x es × S x es) (λ x es. Q x × B x es) t left_two right_two in
            each_call-weaker (λ x es. (C x es × S x es) × (Q x × B x es)) SourceIs
            (λ x es z. source_at x (last_of None ms x) refl (last_has (IsHolding n q) x ms None ready.holds tt) z.0.0 z.0.1 z.1.0 z.1.1) t four

        left_over : (j : ℕ) (t : Term) → slice_get u.at j ≡ Some (Some t) → IsOver a well flags_of place f at y.names d t
        left_over j t at_j = all_get (LeftIsOver a well flags_of place f at y.names d) u.at j (Some t) y.lefts at_j

        left_sources : (j : ℕ) (t : Term) → slice_get u.at j ≡ Some (Some t) → EachCall SourceIs t
        left_sources j t at_j = sources_of t (left_over j t at_j) (λ x. left_calls x u j t at_j)

        same_of : (t : Term) → EachCall SourceIs t → EachCall IsSame t
        same_of t from = each_call-weaker SourceIs IsSame (λ x es z. z.0) t from

        -- a coordinate that is a form is shown to be an i32
        form_inside : (x : List ℕ) (j : ℕ) (c : Coordinate) → slice_get at' j ≡ Some c → (z : (f : Form) × (c.index ≡ At f) × IsRight x f) → is_index_span scope (exactly z.0) ≡ true
        form_inside x j c at_c z = elim fit [ inl early ↦ z.2.inside early | inr all_fit ↦ all_fit j c z.0 (taken_got m cs j c at_c) z.1 ]

        left_inside : list_all (is_index_span scope) left ≡ true
        left_inside =
            ap (list_all (is_index_span scope)) left_parts
            ∙ list_both (is_index_span scope) (map (variable_span O R) at') (map (variable_span O R) over)
            (all_by (variable_span O R) (is_index_span scope) at' (λ j c at_c. (let z = placed_at j c at_c in one z.0 j c at_c z.2))) over_inside
          where
            one : (x : List ℕ) (j : ℕ) (c : Coordinate) → slice_get at' j ≡ Some c → IsAtPlace j x c → is_index_span scope (variable_span O R c) ≡ true
            one x j c at_c (inl (z, none)) = ap (λ (i : Index). is_index_span scope (index_span O R i)) z.1 ∙ form_inside x j c at_c z
            one x j c at_c (inr (t, at_t, found_by)) = ap (λ (i : Index). is_index_span scope (index_span O R i)) found_by ∙ zero_inside scope

        left_long_so : (length names == length left) ≡ true
        left_long_so = (λ i. length-map (at' ++ over) (λ (c : Coordinate). c.variable) i == length-map (at' ++ over) (variable_span O R) i) ∙ eq_refl (length (at' ++ over))

        -- the bounds of a left index
        left_bounds : (j : ℕ) (t : Term) (s : Span1) → left_at u j ≡ Some t → interval_in a plain_left t ≡ Some s → R.interval known.binders names left (with_calls (as_load ms) t) ≡ s
        left_bounds j t s at_j told_s =
            let got_j = left_got u j t at_j in
            let o = left_of j t got_j in
            let wide : type_of (is_among names) (callable a a.functions) t ≡ Some I32 = ap (λ (ys : List (List ℕ)). type_of (is_among ys) (callable a a.functions) t) names_all ∙ o.wide in
            index_bounds a plan cert n O known.binders names left rl scoped names_text refl left_inside left_long_so ms t (same_of t (left_sources j t got_j)) wide s
            (sym (agree_plain t I32 o.typed) ∙ told_s)

        targets : zs ≡ map T cs
        targets =
            targets_behind O R ms a plain_left u known names left left_bounds [] zs 0 w.at N u.at cs is.at
            (λ i. let none : 0 + i ≡ i = omega arith in ap (left_at u) none) spans.1

        vars_are : vars ≡ r.coordinates
        vars_are =
            ap (λ (ss : List Span1). map T at' ++ ss) (sym (targets_are O R known names left over over_forms)) ∙ sym (map_both T at' over) ∙ ap (map T) together ∙ sym targets

        agree_vars : (t : Term) (ty : Ty) → type_of (is_among rn) (called_there a) t ≡ Some ty → interval_in a r t ≡ interval_in a rl t
        agree_vars t ty typed =
            ap (λ (ss : List Span1). interval_in a (record plain_left { coordinates = ss }) t) (sym vars_are)
            ∙ interval_agrees plain_left.scope (called_there a) N N vars left (is_among rn) vars_same t ty typed

        -- a left index is held by its dimension
        held_left : (j : ℕ) (c : Coordinate) → slice_get at' j ≡ Some c → (t : Term) → slice_get u.at j ≡ Some (Some t) → (x z : Extent) → slice_get h.extents j ≡ Some x → GoesOn x z →
            (span_inside scope (T c) (whole z) ≡ true) × (span_inside scope (T c) (range_of I32) ≡ true)
        held_left j c at_c t at_j x z at_x goes =
            let there_c : slice_get zs j ≡ Some (T c) = ap (λ (ss : List Span1). slice_get ss j) targets ∙ at_map T cs j c (taken_got m cs j c at_c) in
            let both_so = lefts d u w r defined stands stands_r j t x z (T c) at_j at_x goes there_c in (
              ap (λ (sc : List Binding). span_inside sc (T c) (whole z)) scoped ∙ both_so.0,
              ap (λ (sc : List Binding). span_inside sc (T c) (range_of I32)) scoped ∙ both_so.1,
            )

        -- ---- dimension by dimension

        extent_at : (j : ℕ) (x : List ℕ) → slice_get xs j ≡ Some x → (z : Extent) × (slice_get h.extents j ≡ Some z)
        extent_at j x at_x = (let less_j = slice_get_within xs j x at_x in let many = long_extents in at_place h.extents j (omega (arith, less_j, many)))

        -- what is so of a span at this place
        abbrev IsFine : List ℕ → Coordinate → Span1 → Type 0
        IsFine x c s =
            (is_seated R known.binders s (place_of x) ≡ true) × (0 < d → is_within R known.binders s (claim_of_var x) ≡ true) × (is_within R known.binders s (index_met O R c.index) ≡ true)

        fine_missing : (j : ℕ) (x : List ℕ) (c : Coordinate) (t : Term) → slice_get xs j ≡ Some x → c.index ≡ Found (with_calls (as_load ms) t) → slice_get u.at j ≡ Some (Some t) → (s : Span1) →
            ((z y : Extent) → slice_get h.extents j ≡ Some z → GoesOn z y → span_inside scope s (whole y) ≡ true) → IsFine x c s
        fine_missing j x c t at_x found_by at_j s held_s =
            let z = extent_at j x at_x in
            let dims = whole_dims j d u t x z.0 defined at_j at_x z.1 in
            let y : Extent = dims.0 in
            let inner = held_s z.0 y z.1 dims.1 in
            let last_is : y.low +ℤ pos y.count -ℤ pos 1 ≡ y.low +ℤ (pos y.count -ℤ pos 1) = omega (arith, ints) in (
              ap (is_seated R known.binders s) dims.2 ∙ (λ i. span_inside scope s (numbers y.low (sym last_is i))) ∙ inner,
              (λ update. ap (is_within R known.binders s) dims.3 ∙ inner),
              ap (λ (y : Index). is_within R known.binders s (index_met O R y)) found_by,
            )

        fine_form : (x : List ℕ) (c : Coordinate) (z : Form) → c.index ≡ At z → IsRight x z → IsFine x c (exactly z)
        fine_form x c z is_z right =
            let self : at_most scope z z ≡ true = form_self scope z right.kept in (
              right.seated,
              right.within,
              ap (λ (i : Index). is_within R known.binders (exactly z) (index_met O R i)) is_z ∙ (λ j. ((self j || false) && true) && ((self j || false) && true)),
            )

        -- so it is of spans one by one
        all_fine : (ss : List Span1) → length ss ≡ length xs →
            ((j : ℕ) (s : Span1) (x : List ℕ) (c : Coordinate) → slice_get ss j ≡ Some s → slice_get xs j ≡ Some x → slice_get at' j ≡ Some c → IsFine x c s) →
            (are_seated R known.binders ss places ≡ true) × (0 < d → are_within R known.binders ss region ≡ true)
            × (are_within R known.binders ss (map (λ (c : Coordinate). index_met O R c.index) at') ≡ true)
        all_fine ss long_so each = (
          ap (are_seated R known.binders ss) places_are
              ∙ seated_by R known.binders ss (map place_of xs) (long_so ∙ sym (length-map xs place_of))
              (λ j s p at_s at_p. (let x = from_map place_of xs j p at_p in let c = coordinate_at j x.0 x.1 in ap (is_seated R known.binders s) x.2 ∙ (each j s x.0 c.0 at_s x.1 c.1).0)),
          (λ update.
              ap (are_within R known.binders ss) claims_are
              ∙ within_by R known.binders ss (map claim_of_var xs) (long_so ∙ sym (length-map xs claim_of_var))
              (λ j s p at_s at_p. (let x = from_map claim_of_var xs j p at_p in let c = coordinate_at j x.0 x.1 in
              ap (is_within R known.binders s) x.2 ∙ (each j s x.0 c.0 at_s x.1 c.1).1 update))),
          within_by R known.binders ss (map (λ (c : Coordinate). index_met O R c.index) at') (long_so ∙ sym at_long ∙ sym (length-map at' (λ (c : Coordinate). index_met O R c.index)))
              (λ j s p at_s at_p. (let c = from_map (λ (c : Coordinate). index_met O R c.index) at' j p at_p in let x = variable_here j c.0 c.1 in
              ap (is_within R known.binders s) c.2 ∙ (each j s x.0 c.0 at_s x.1 c.1).2)),
        )
          where
            coordinate_at : (j : ℕ) (x : List ℕ) → slice_get xs j ≡ Some x → (c : Coordinate) × (slice_get at' j ≡ Some c)
            coordinate_at j x at_x = (let less_j = slice_get_within xs j x at_x in let many = at_long in at_place at' j (omega (arith, less_j, many)))

            variable_here : (j : ℕ) (c : Coordinate) → slice_get at' j ≡ Some c → (x : List ℕ) × (slice_get xs j ≡ Some x)
            variable_here j c at_c = (let less_j = slice_get_within at' j c at_c in let many = at_long in at_place xs j (omega (arith, less_j, many)))

        -- where it stores
        target_fine : (j : ℕ) (x : List ℕ) (c : Coordinate) → slice_get xs j ≡ Some x → slice_get at' j ≡ Some c → IsFine x c (T c)
        target_fine j x c at_x at_c = of (placed_of j x c at_x at_c)
          where
            of : IsAtPlace j x c → IsFine x c (T c)
            of (inl (z, none)) = subst (IsFine x c) (sym (ap (index_place O R known names left) z.1)) (fine_form x c z.0 z.1 z.2)
            of (inr (t, at_t, found_by)) = fine_missing j x c t at_x found_by at_t (T c) (λ z y at_z goes. (held_left j c at_c t at_t z y at_z goes).0)

        points_fine : (are_seated R known.binders (map T at') places ≡ true) × (0 < d → are_within R known.binders (map T at') region ≡ true)
        points_fine =
            let all_so = all_fine (map T at') (length-map at' T ∙ at_long) (λ j s x c at_s at_x at_c. (let t = from_map T at' j s at_s in
            let same_c : t.0 ≡ c = some_same t.0 c (sym t.1 ∙ at_c) in subst (IsFine x c) (sym (t.2 ∙ ap T same_c)) (target_fine j x c at_x at_c))) in
            (all_so.0, all_so.1)

        -- ---- bounds of expressions

        vars_inside : list_all (is_index_span scope) vars ≡ true
        vars_inside =
            list_both (is_index_span scope) (map T at') (map (variable_span O R) over)
            (all_by T (is_index_span scope) at' (λ j c at_c. (let z = placed_at j c at_c in one z.0 j c z.1 at_c z.2))) over_inside
          where
            one : (x : List ℕ) (j : ℕ) (c : Coordinate) → slice_get xs j ≡ Some x → slice_get at' j ≡ Some c → IsAtPlace j x c → is_index_span scope (T c) ≡ true
            one x j c at_x at_c (inl (z, none)) = ap (is_index_span scope) (ap (index_place O R known names left) z.1) ∙ form_inside x j c at_c z
            one x j c at_x at_c (inr (t, at_t, found_by)) = (let z = extent_at j x at_x in let dims = whole_dims j d u t x z.0 defined at_t at_x z.1 in (held_left j c at_c t at_t z.0 dims.0
                z.1 dims.1).1)

        vars_long : (length names == length vars) ≡ true
        vars_long =
            let names_many = length-map (at' ++ over) (λ (c : Coordinate). c.variable) in
            let same_vars : vars ≡ map T (at' ++ over) = ap (λ (ss : List Span1). map T at' ++ ss) (sym (targets_are O R known names left over over_forms)) ∙ sym (map_both T at' over) in
            (λ i. names_many i == length (same_vars i)) ∙ (λ i. length (at' ++ over) == length-map (at' ++ over) T i) ∙ eq_refl (length (at' ++ over))

        all_bounded : AllByRecursion (λ (c : Written). IsBoundedCall c.name c.at) (flat_map calls_left u.at) × AllByRecursion (λ (c : Written). IsBoundedCall c.name c.at) (calls_of u.value)
        all_bounded = parts IsBoundedCall (flat_map calls_left u.at) (calls_of u.value) (calls_bounded a r u regions g.subject.name (calls_in u) bounded_r)

        abbrev IsFoundCall : List ℕ → Terms → Type 0
        IsFoundCall x es = (out : List (List Span1)) → add_calls a r x (calls_in u) [] ≡ Some out → IsFound a r x out (written_call x es)

        all_found : AllByRecursion (λ (c : Written). IsFoundCall c.name c.at) (flat_map calls_left u.at) × AllByRecursion (λ (c : Written). IsFoundCall c.name c.at) (calls_of u.value)
        all_found =
            parts IsFoundCall (flat_map calls_left u.at) (calls_of u.value)
            (each_found a r (calls_in u) (calls_in u) (λ x out z. (add_all a r x (calls_in u) [] out z).0))

        -- ---- what a call owes

        abbrev may : ℕ → Bool
        may = may_load O R known 0 F d

        abbrev meets : ℕ → List (List Span1)
        meets = met O R F d at'

        -- a test of something else than names
        abbrev IsMore : Obligation → Type 0
        IsMore o = IsNameTest o.wanted → ⊥

        abbrev ShowsBy : Source → List Span1 → Type 0
        ShowsBy s ss = Shows O R nests IsMore (load_obligations O R at_line known may meets s ss)

        -- how many indices what is called takes
        abbrev Takes : List ℕ → Terms → Type 0
        Takes x es = (t : Ty) × (answer_type (callable a a.functions x) (index_count es) ≡ Some t)

        one_within : (x : List ℕ) (es : Terms) → Takes x es → IsBoundedCall x es → x ≡ a.input → (ss : List Span1) →
            (is_on_input a r es a.input_extents ≡ Some true → index_count es ≡ length a.input_extents → are_within R known.binders ss R.extents ≡ true) → are_within R known.binders ss R.extents ≡ true
        one_within x es t c name ss shown_so =
            let answer = answer-is (callable a a.functions x) (index_count es) t.0 t.1 in
            let takes : Some (a.input_ty, length a.input_extents) ≡ Some answer.0 =
            sym (ap (callable a a.functions) name ∙ input_callable a a.functions (none_is_input a well.names)) ∙ answer.1 in
            let count : length a.input_extents ≡ answer.0.1 = second a.input_ty (length a.input_extents) answer.0 takes in
            let on : is_on_input a r es a.input_extents ≡ Some true =
            input_bounded a r u regions g.subject.name (written_call x es) (ap (λ (z : List ℕ). same_name z a.input) name ∙ name_refl a.input) c in
            shown_so on (sym (count ∙ answer.2))

        no_meets : (j : ℕ) (x : List ℕ) (i : ℕ) (t : FetchText) → slice_get fetches i ≡ Some t → t.function ≡ x → (same_name f.name x ≡ false) ⊎ (j ≡ 0) → met O R F j at' (first + i) ≡ []
        no_meets zero x i t stands_there name other = refl
        no_meets (suc j) x i t stands_there name (inr none) = absurd (omega (arith, none))
        no_meets (suc j) x i t stands_there name (inl none) =
            let fk = fetch_known a sch l well legal small kept all groups told free n q place f at there first line claims needs theirs h hold numbered lined i t stands_there in
            let own = own_function a sch l well legal small kept all groups told free n q place f at there first line claims needs theirs h hold numbered lined in
            let other = differs a sch l well legal small kept all groups told free n q place f at there first line claims needs theirs h hold numbered lined f.name x none in
            let function : (O.claim (first + i)).function ≡ x = fk.function ∙ name in
            let test : same_name (O.claim (first + i)).function F ≡ false = (λ z. same_name (function z) (own z)) ∙ other in
            ap (λ (b : Bool). if b then map (λ (c : Coordinate). index_met O R c.index) at' ∷ [] else []) test

        fetch_shows : (x : List ℕ) (es : Terms) → Takes x es → IsFoundCall x es → (c : ℕ) → FetchedBy fetches first x c → (same_name f.name x ≡ false) ⊎ (d ≡ 0) → (ss : List Span1) →
            length ss ≡ index_count es → ((out : List Span1) → add_spans a r es [] ≡ Some out → ss ≡ out) → ShowsBy (ByClaim c) ss
        fetch_shows x es t found_call c by different ss many_so same_spans =
            let j = by.0 in
            let f_text = by.1 in
            let stands_there = by.2 in
            let fk = fetch_known a sch l well legal small kept all groups told free n q place f at there first line claims needs theirs h hold numbered lined j f_text stands_there in
            let buffer : (O.claim c).buffer ≡ f_text.buffer = ap (λ (m : ℕ). (O.claim m).buffer) by.4 ∙ fk.buffered in
            let held_places : places_of known.buffers (O.claim c).buffer ≡ Some f_text.places = ap (places_of known.buffers) buffer ∙ (held_here j f_text stands_there).1 in
            let over_region : (O.claim c).region ≡ f_text.region = ap (λ (m : ℕ). (O.claim m).region) by.4 ∙ fk.region in
            let fa = fetch_at (sites_of a g fs k) (grid_scope k.grid) n 1 (line + first_lines k) (fetched_groups fs n 0 entries) fetches needs h.body.fetched h.body.fetching j f_text stands_there in
            let z = fa.group.1 in
            let other = other_at fs n 0 entries fa.place fa.group fa.listed in
            let number : fa.group.0 ≡ other.place = (let m = other.numbered in omega (arith, m)) in
            let function : z.0.subject.name ≡ x = sym fa.fetched.named ∙ by.3 in
            let sites = fa.part.taken.sites in
            let listed = ap (sites_of a g fs k) (sym function) ∙ fa.part.taken.called in
            let zero_on : 0 + d ≡ d = omega arith in
            let site : IsSiteAt a g (head_scope k) x d u w sites =
            subst (λ (j : ℕ). IsSiteAt a g (head_scope k) x j u w sites) zero_on (site_at a g (head_scope k) x 0 fs k.nests [] sites listed d u w defined stands) in
            let same_known : site.known ≡ r = same site.known r (sym site.is ∙ stands_r) in
            let added : add_calls a r x (calls_in u) [] ≡ Some site.calls = subst (λ (z : AroundText). add_calls a z x (calls_in u) [] ≡ Some site.calls) same_known site.added in
            let call = found_call site.calls added in
            let spans_eq : ss ≡ call.0 = same_spans call.0 call.1 in
            let one_site : SiteText = record { scope = site.known.scope; calls = site.calls } in
            let has = site.site call.0 call.2 in
            let entry = entry_at (stored_functions a sch) (regions_found a sch l well legal small kept all groups) all (all_ready a sch l well legal small kept all groups) other.place z other.at in
            let fetched_is : is_fetched fs n other.place z ≡ true = ap (λ (m : ℕ). is_fetched fs n m z) (sym number) ∙ other.fetched in
            let held_all = all_held (grid_scope k.grid) sites one_site call.0 has call.2
            (λ dim s' x' needed.
            cut_low a g fs f.variables (bodies_from f.changes 0 (reductions_of f.changes) fs) (loops_after (said sch) f) h.extents k h.laid z.0.subject.name sites fa.part.taken.called
            (grid_scope k.grid) dim s' x' needed) 0 z.1.region
            (λ i x' at_x. let none : i ≡ 0 + i = omega arith in
            subst (λ (m : ℕ). IsHeldPart (grid_scope k.grid) sites m x') none (held_parts other.place z other.at fetched_is sites fa.part.taken.called i x' at_x)) in
            let answer = answer-is (callable a a.functions x) (index_count es) t.0 t.1 in
            let known_function = known_stored a sch well other.place z.0 entry.is in
            let takes : Some (known_function.function.ty, length known_function.function.variables) ≡ Some answer.0 =
            sym (ap (callable a a.functions) (sym function) ∙ named_callable a a.functions z.0.subject.name known_function.function known_function.named) ∙ answer.1 in
            let count : length known_function.function.variables ≡ answer.0.1 = second known_function.function.ty (length known_function.function.variables) answer.0 takes in
            let long_region = (region_is a (stored_functions a sch) other.place z.0 z.1 entry.is entry.laid).long in
            let many : length call.0 ≡ length z.1.region = sym (ap length spans_eq) ∙ many_so ∙ sym answer.2 ∙ sym count ∙ sym known_function.variables ∙ sym long_region in
            let scope_there : scope ≡ one_site.scope = scoped ∙ ap (λ (z : AroundText). z.scope) (sym same_known) in
            let there_too : (i : ℕ) → slice_get call.0 (0 + i) ≡ slice_get call.0 i = λ i. let none : 0 + i ≡ i = omega arith in ap (slice_get call.0) none in
            let within = region_within (grid_scope k.grid) sites one_site.scope call.0 R known.binders scope_there (λ x y. refl) 0 z.1.region call.0 there_too many held_all in
            let seats = places_seat (grid_scope k.grid) sites one_site.scope call.0 R known.binders scope_there (λ x y. refl) 0 z.1.region call.0 there_too many held_all in
            let within_claim : are_within R known.binders ss (region_of O R c) ≡ true =
            (λ i. are_within R known.binders (spans_eq i) (over_region i)) ∙ ap (are_within R known.binders call.0) fa.part.taken.region ∙ within in
            let seated_all : shows R nests known.binders (seated O R (places_of known.buffers (O.claim c).buffer) ss) ≡ true =
            ap (λ (o : Option (List Places)). shows R nests known.binders (seated O R o ss)) held_places ∙ (λ i. are_seated R known.binders (spans_eq i) (fa.part.taken.places i)) ∙ seats in
            let no_met : meets c ≡ [] = ap meets by.4 ∙ no_meets d x j f_text stands_there by.3 different in
            let rest : Shows O R nests IsMore (map (λ ys. obligation O R NotTheDefinition at_line known (Inside ss ys)) (meets c)) =
            subst (λ (yss : List (List Span1)). Shows O R nests IsMore (map (λ ys. obligation O R NotTheDefinition at_line known (Inside ss ys)) yss)) (sym no_met) tt in
            ((λ more. seated_all), (λ more. absurd (more tt), (λ more. within_claim, rest)))

        -- ---- calls of the function itself

        abbrev Keeps : List ℕ → Terms → Type 0
        Keeps name args =
            (i : ℕ) → d ≡ suc i → name ≡ f.name → (j : ℕ) (x : List ℕ) → slice_get f.variables j ≡ Some x → ((t : Term) → slice_get u.at j ≡ Some (Some t) → ⊥) → has_variable x j args ≡ true

        -- its indices at places where the left index is no variable lie in their dimensions
        abbrev IsOwnHeld : List ℕ → Terms → Type 0
        IsOwnHeld x es =
            x ≡ f.name → (j : ℕ) (e t : Term) (z y : Extent) (s : Span1) → slice_get u.at j ≡ Some (Some e) → slice_get h.extents j ≡ Some z → GoesOn z y → index_at es j ≡ Some t →
            interval_in a r t ≡ Some s → span_inside r.scope s (whole y) ≡ true

        abbrev own_spans : Terms → List Span1
        own_spans es = intervals O R known.binders names vars (all_with_calls (as_load ms) es)

        own_fine : (x : List ℕ) (es : Terms) → x ≡ f.name → IsTyped x es → EachCallOfAll IsSame es → IsBoundedCall x es → IsOwnHeld x es → Keeps x es → (i : ℕ) → d ≡ suc i → (j : ℕ) (s :
            Span1) (z : List ℕ)
            (c : Coordinate) → slice_get (own_spans es) j ≡ Some s → slice_get xs j ≡ Some z → slice_get at' j ≡ Some c → IsFine z c s
        own_fine x es name t s_all bounded_call own_so keeps i later j s z c at_s at_z at_c = of (placed_of j z c at_z at_c)
          where
            index : (t : Term) × (index_at es j ≡ Some t) × (R.interval known.binders names vars (with_calls (as_load ms) t) ≡ s)
            index = interval_nth O R known.binders names vars ms es j s at_s

            in_region : is_in_region a r u 0 es regions ≡ Some true
            in_region =
                let no_input : same_name x a.input ≡ false = ap (λ (y : List ℕ). same_name y a.input) name ∙ name_differs f.name a.input (none_is_input a well.names place f at) in
                let own : same_name x g.subject.name ≡ true = ap (λ (y : List ℕ). same_name y g.subject.name) name ∙ name_refl f.name in
                sym ((λ k'. if no_input k' then is_on_input a r es a.input_extents else (if own k' then is_in_region a r u 0 es regions else Some true))) ∙ bounded_call

            of : IsAtPlace j z c → IsFine z c s
            of (inr (e', at_e, found_by)) =
                let none : 0 + j ≡ j = omega arith in
                let left_j : left_at u (0 + j) ≡ Some e' = ap (left_at u) none ∙ ap (λ (o : Option (Option Term)). elim o [ Some i ↦ i | None ↦ None ]) at_e in
                fine_missing j z c e' at_z found_by at_e s (λ ext y at_ext goes.
                (let told_so = region_nth a r u 0 es regions in_region j index.0 (whole ext) e' index.1 (at_map whole h.extents j ext at_ext) left_j in
                let same_j = each_nth IsSame es j index.0 s_all index.1 in
                let typed_j = typed_nth (is_among names) (callable a a.functions) es j index.0 t.0 index.1 in
                let is_s : told_so.0 ≡ s =
                sym (index_bounds a plan cert n O known.binders names vars r scoped names_text vars_are vars_inside vars_long ms index.0 same_j typed_j told_so.0 told_so.1) ∙ index.2 in
                (λ k'. span_inside (scoped k') (sym is_s k') (whole y)) ∙ own_so name j e' index.0 ext y told_so.0 at_e at_ext goes index.1 told_so.1))
            of (inl (p, no_expression)) =
                let variable = variable_nth z j es index.0 (keeps i later name j z at_z no_expression) index.1 in
                let term : index.0 ≡ Name z = is_name z index.0 variable in
                let names_j : slice_get names j ≡ Some z = ap (λ (ys : List (List ℕ)). slice_get ys j) names_all ∙ at_left xs rn j z at_z in
                let target_c : T c ≡ exactly p.0 = ap (index_place O R known names left) p.1 in
                let vars_j : slice_get vars j ≡ Some (exactly p.0) =
                at_left (map T at') (map (variable_span O R) over) j (exactly p.0) (at_map T at' j c at_c ∙ ap (λ (y : Span1). Some y) target_c) in
                let once : hits itself z names ≤ 1 =
                subst (λ (ys : List (List ℕ)). hits itself z ys ≤ 1) (sym names_all) (hits_once (xs ++ rn) z (none_twice (xs ++ rn) (distinct_at d u defined))) in
                let point : IsPoint a plan cert n O known names vars vars_inside vars_long ms z p.0 = record {
                  among = among_at names j z names_j;
                  spans = span_at_place names vars j z (exactly p.0) once names_j vars_j;
                  limited = p.2.kept;
                } in
                let bounds : R.interval known.binders names vars (Name z) ≡ exactly p.0 = variable_bounds a plan cert n O known names vars vars_inside vars_long ms z p.0 point in
                let is_s : exactly p.0 ≡ s = sym bounds ∙ ap (λ (y : Term). R.interval known.binders names vars (with_calls (as_load ms) y)) (sym term) ∙ index.2 in
                subst (IsFine z c) is_s (fine_form z c p.0 p.1 p.2)

        met_within : (ss : List Span1) → are_within R known.binders ss (map (λ (c : Coordinate). index_met O R c.index) at') ≡ true → (j : ℕ) (c : ℕ) →
            Shows O R nests IsMore (map (λ ys. obligation O R NotTheDefinition at_line known (Inside ss ys)) (met O R F j at' c))
        met_within ss so zero c = tt
        met_within ss so (suc j) c = of (same_name (O.claim c).function F)
          where
            of : (b : Bool) →
                Shows O R nests IsMore (map (λ ys. obligation O R NotTheDefinition at_line known (Inside ss ys)) (if b then map (λ (c : Coordinate). index_met O R c.index) at' ∷ [] else []))
            of true = ((λ more. so), tt)
            of false = tt

        own_shows : (x : List ℕ) (es : Terms) → IsTyped x es → EachCallOfAll IsSame es → IsBoundedCall x es → IsOwnHeld x es → Keeps x es → (c i : ℕ) → d ≡ suc i → same_name f.name x ≡ true
            → c ≡ first_own + i →
            ShowsBy (ByClaim c) (own_spans es)
        own_shows x es t s_all bounded_call own_so keeps c i later own number =
            let name : x ≡ f.name = sym (name_true f.name x own) in
            let there_too : i < length k.nests = (let l' = less in omega (arith, l', later)) in
            let known_own = own_known a sch l well legal small kept all groups told free n q place f at there first line claims needs theirs h hold numbered lined i there_too in
            let buffer : (O.claim c).buffer ≡ 0 = ap (λ (j : ℕ). (O.claim j).buffer) number ∙ known_own.buffered in
            let over_region : (O.claim c).region ≡ region = ap (λ (j : ℕ). (O.claim j).region) number ∙ own_over i there_too in
            let answer = answer-is (callable a a.functions x) (index_count es) t.1.0 t.1.1 in
            let takes : Some (f.ty, length f.variables) ≡ Some answer.0 =
            sym (ap (callable a a.functions) name ∙ named_callable a a.functions f.name f (named_here a well place f at)) ∙ answer.1 in
            let count : length f.variables ≡ answer.0.1 = second f.ty (length f.variables) answer.0 takes in
            let many : length (own_spans es) ≡ length xs = intervals_long a plan cert n O known.binders names vars r scoped names_text vars_are vars_inside vars_long ms es ∙ sym (count ∙ answer.2) in
            let all_so = all_fine (own_spans es) many (λ j s z c' at_s at_z at_c. own_fine x es name t s_all bounded_call own_so keeps i later j s z c' at_s at_z at_c) in
            let held_places : places_of known.buffers (O.claim c).buffer ≡ Some places = ap (places_of known.buffers) buffer ∙ own_here in (
              (λ more. ap (λ (o : Option (List Places)). shows R nests known.binders (seated O R o (own_spans es))) held_places ∙ all_so.0),
              (λ more. absurd (more tt), (λ more. ap (are_within R known.binders (own_spans es)) over_region ∙ all_so.1 (omega (arith, later)), met_within (own_spans es) all_so.2 d c)),
            )

        -- ---- all that the value loads

        typed_value : EachCall IsTyped u.value
        typed_value = subst (λ (known_names : List ℕ → Bool). EachCall (IsTypedCall known_names (callable a a.functions)) u.value) names_written
            (calls_typed (is_among y.names) (callable a a.functions) u.value y.value.ty y.value.typed)

        sources : EachCall SourceIs u.value
        sources = sources_of u.value y.value (λ x. value_calls x u)

        keeping : (j : ℕ) → d ≡ j → EachCall Keeps u.value
        keeping zero pure = each_call-weaker IsTyped Keeps (λ x es z i later. absurd (omega (arith, pure, later))) u.value typed_value
        keeping (suc j) later =
            each_call-weaker (Keeping u.at) Keeps (λ x es z i more name j' x' at_x none. z name j' x' at_x none) u.value (owns d u defined j later)

        abbrev IsReadyCall : List ℕ → Terms → Type 0
        IsReadyCall x es = (IsTyped x es × EachCallOfAll IsSame es) × ((IsBoundedCall x es × IsOwnHeld x es) × SourceIs x es)

        abbrev IsTold : List ℕ → Terms → Type 0
        IsTold x es = IsReadyCall x es × (IsFoundCall x es × Keeps x es)

        told_calls : EachCall IsTold u.value
        told_calls =
            let inner = each_inner IsSame u.value (same_of u.value sources) in
            let one = each_both IsTyped (λ x es. EachCallOfAll IsSame es) u.value typed_value inner in
            let held_so = each_of IsOwnHeld u.value (parts IsOwnHeld (flat_map calls_left u.at) (calls_of u.value) (owns_held d u w r defined stands stands_r)).1 in
            let both_so = each_both IsBoundedCall IsOwnHeld u.value (each_of IsBoundedCall u.value all_bounded.1) held_so in
            let two = each_both (λ x es. IsBoundedCall x es × IsOwnHeld x es) SourceIs u.value both_so sources in
            let three = each_both (λ x es. IsTyped x es × EachCallOfAll IsSame es) (λ x es. (IsBoundedCall x es × IsOwnHeld x es) × SourceIs x es) u.value one two in
            let four = each_both IsFoundCall Keeps u.value (each_of IsFoundCall u.value all_found.1) (keeping d refl) in
            each_both IsReadyCall (λ x es. IsFoundCall x es × Keeps x es) u.value three four

        value_shows : (x : List ℕ) (es : Terms) → IsTold x es → CallShows O R nests IsMore at_line known may meets names vars ms x es
        value_shows x es z = elim z.0.1.1.2 [
          | inl by ↦
              subst (λ (s : Source). ShowsBy s (own_spans es)) (sym by.2)
              (by_claim by.0 (last_is a sch l well legal small kept all groups told free n q place f at there first line claims needs theirs h hold numbered lined d x by.0 by.1))
          | inr input ↦
              subst (λ (s : Source). ShowsBy s (own_spans es)) (sym input) (
                (λ more. one_within x es z.0.0.0.1 z.0.1.0.0 (z.0.1.1.1 input) (own_spans es)
                    (λ on count. input_within a plan cert n O known.binders names vars r scoped names_text vars_are vars_inside vars_long ms es a.input_extents on count z.0.0.1 z.0.0.0.0)),
                tt,
              )
        ]
          where
            by_claim : (c : ℕ) → IsLast a sch l well legal small kept all groups told free n q place f at there first line claims needs theirs h hold numbered lined d x c →
                ShowsBy (ByClaim c) (own_spans es)
            by_claim c (inl own) = own_shows x es z.0.0.0 z.0.0.1 z.0.1.0.0 z.0.1.0.1 z.1.1 c own.0 own.1 own.2 own.3
            by_claim c (inr by) =
                fetch_shows x es z.0.0.0.1 z.1.0 c by.1 by.0 (own_spans es)
                (intervals_long a plan cert n O known.binders names vars r scoped names_text vars_are vars_inside vars_long ms es)
                (λ out spans_out. spans_same a plan cert n O known.binders names vars r scoped names_text vars_are vars_inside vars_long ms es [] out spans_out z.0.0.1 z.0.0.0.0)

        -- ---- and left indices

        abbrev left_spans : Terms → List Span1
        left_spans es = intervals O R known.binders names left (all_with_calls (as_load ms) es)

        abbrev IsLeftTold : List ℕ → Terms → Type 0
        IsLeftTold x es = ((IsTyped x es × IsNarrow x es) × (EachCallOfAll IsSame es × IsBoundedCall x es)) × ((SourceIs x es × IsFoundCall x es) × (x ≡ f.name → ⊥))

        left_told : (j : ℕ) (t : Term) → slice_get u.at j ≡ Some (Some t) → EachCall IsLeftTold t
        left_told j t at_j =
            let o = left_of j t at_j in
            let wide : type_of (is_among names) (callable a a.functions) t ≡ Some I32 = ap (λ (ys : List (List ℕ)). type_of (is_among ys) (callable a a.functions) t) names_all ∙ o.wide in
            let typed = calls_typed (is_among names) (callable a a.functions) t I32 wide in
            let narrow_so = calls_typed (is_among rn) (called_there a) t I32 o.typed in
            let from = left_sources j t at_j in
            let inner = each_inner IsSame t (same_of t from) in
            let bounded_so = each_of IsBoundedCall t (calls_at IsBoundedCall u.at j t at_j all_bounded.0) in
            let found_so = each_of IsFoundCall t (calls_at IsFoundCall u.at j t at_j all_found.0) in
            let one = each_both IsTyped IsNarrow t typed narrow_so in
            let two = each_both (λ x es. EachCallOfAll IsSame es) IsBoundedCall t inner bounded_so in
            let three = each_both (λ x es. IsTyped x es × IsNarrow x es) (λ x es. EachCallOfAll IsSame es × IsBoundedCall x es) t one two in
            let four = each_both SourceIs IsFoundCall t from found_so in
            let five = each_both (λ x es. SourceIs x es × IsFoundCall x es) (λ x es. x ≡ f.name → ⊥) t four o.others in
            each_both (λ x es. (IsTyped x es × IsNarrow x es) × (EachCallOfAll IsSame es × IsBoundedCall x es)) (λ x es. (SourceIs x es × IsFoundCall x es) × (x ≡ f.name → ⊥)) t three five

        left_shows : (x : List ℕ) (es : Terms) → IsLeftTold x es → CallShows O R nests IsMore at_line known may meets names left ms x es
        left_shows x es z = elim z.1.0.0.2 [
          | inl by ↦
              subst (λ (s : Source). ShowsBy s (left_spans es)) (sym by.2)
              (by_claim by.0 (last_is a sch l well legal small kept all groups told free n q place f at there first line claims needs theirs h hold numbered lined d x by.0 by.1))
          | inr input ↦
              subst (λ (s : Source). ShowsBy s (left_spans es)) (sym input) (
                (λ more. one_within x es z.0.0.0.1 z.0.1.1 (z.1.0.0.1 input) (left_spans es)
                    (λ on count. input_within a plan cert n O known.binders names left rl scoped names_text refl left_inside left_long_so ms es a.input_extents
                    (sym (input_agrees a r rl refl (is_among rn) agree_vars es a.input_extents z.0.0.1.0) ∙ on) count z.0.1.0 z.0.0.0.0)),
                tt,
              )
        ]
          where
            by_claim : (c : ℕ) → IsLast a sch l well legal small kept all groups told free n q place f at there first line claims needs theirs h hold numbered lined d x c →
                ShowsBy (ByClaim c) (left_spans es)
            by_claim c (inl own) = absurd (z.1.1 (sym (name_true f.name x own.2)))
            by_claim c (inr by) =
                fetch_shows x es z.0.0.0.1 z.1.0.1 c by.1 by.0 (left_spans es)
                (intervals_long a plan cert n O known.binders names left rl scoped names_text refl left_inside left_long_so ms es)
                (λ out spans_out. spans_same a plan cert n O known.binders names left rl scoped names_text refl left_inside left_long_so ms es [] out
                (sym (spans_agree a r rl refl (is_among rn) agree_vars es [] z.0.0.1.0) ∙ spans_out) z.0.1.0 z.0.0.0.0)

        abbrev LeftShows : Coordinate → Type 0
        LeftShows c = Shows O R nests IsMore (coordinate_loads O R at_line known may meets names left c)

        coordinate_shows : (j : ℕ) (c : Coordinate) → slice_get at' j ≡ Some c → LeftShows c
        coordinate_shows j c at_c = (let z = placed_at j c at_c in of z.0 z.2)
          where
            of : (x : List ℕ) → IsAtPlace j x c → LeftShows c
            of x (inl (z, none)) = subst (λ (i : Index). Shows O R nests IsMore (index_loads O R at_line known may meets names left i)) (sym z.1) tt
            of x (inr (t, at_t, found_by)) =
                subst (λ (i : Index). Shows O R nests IsMore (index_loads O R at_line known may meets names left i)) (sym found_by)
                (term_shows O R nests IsMore at_line known may meets names left ms t
                (each_call-weaker IsLeftTold (CallShows O R nests IsMore at_line known may meets names left ms) left_shows t (left_told j t at_t)))

        -- ---- all that the store owes

        claimed_shows : (j : ℕ) → d ≡ j → Shows O R nests IsMore (claimed O R at_line known 0 F j (map T at'))
        claimed_shows zero same_number = tt
        claimed_shows (suc j) same_number = each known.updating under
          where
            each : (vs : List Updating) → AllByRecursion (λ v. NamedIn O R (line + 1) (line + (lines (statement_of q.body) + 1)) v.next) vs →
                Shows O R nests IsMore (map (λ v. obligation O R NotClaimed at_line known (Inside (map T at') (region_of O R v.next))) (filter (serves O R 0 F (suc j)) vs))
            each [] named = tt
            each (z ∷ vs) named = of (serves O R 0 F (suc j) z) refl (each vs named.1)
              where
                of : (t : Bool) → serves O R 0 F (suc j) z ≡ t →
                    Shows O R nests IsMore (map (λ v. obligation O R NotClaimed at_line known (Inside (map T at') (region_of O R v.next))) (filter (serves O R 0 F (suc j)) vs)) →
                    Shows O R nests IsMore (map (λ v. obligation O R NotClaimed at_line known (Inside (map T at') (region_of O R v.next)))
                    (if t then z ∷ filter (serves O R 0 F (suc j)) vs else filter (serves O R 0 F (suc j)) vs))
                of false p rest = rest
                of true p rest =
                    let buffer : (O.claim z.next).buffer ≡ 0 = eq_true (O.claim z.next).buffer 0 (and_parts ((O.claim z.next).buffer == 0) _ p).0 in
                    let low_line = named.0.2 in
                    let over_region = named_over a sch l well legal small kept all groups n first line g q claims needs there theirs h lined numbered alone_here z.next named.0.0 named.0.1
                    (omega (arith, low_line)) named.0.3 buffer in
                    ((λ more. ap (are_within R known.binders (map T at')) over_region ∙ points_fine.1 (omega (arith, same_number))), rest)

        store_shows : Shows O R nests IsMore (obligations O R (Store 0 d cs e) at_line known)
        store_shows =
            let value = subst (λ (t : Term). Shows O R nests IsMore (loads O R at_line known may meets names vars t)) (sym is.value)
            (term_shows O R nests IsMore at_line known may meets names vars ms u.value
            (each_call-weaker IsTold (CallShows O R nests IsMore at_line known may meets names vars ms) value_shows u.value told_calls)) in
            let coordinates : Shows O R nests IsMore (flat_map (coordinate_loads O R at_line known may meets names left) at') =
            all_flat LeftShows (λ o. IsMore o → is_shown R nests o ≡ true) (coordinate_loads O R at_line known may meets names left) (λ c z. z) at'
            (all_slices LeftShows at' coordinate_shows) in
            let behind_all = joined (flat_map (coordinate_loads O R at_line known may meets names left) at') (loads O R at_line known may meets names vars e) coordinates value in (
              (λ more. ap (λ (o : Option (List Places)). shows R nests known.binders (seated O R o (map T at'))) own_here ∙ points_fine.0),
              (
                (λ more. absurd (more tt)),
                joined (claimed O R at_line known 0 F d (map T at')) (flat_map (coordinate_loads O R at_line known may meets names left) at'
                    ++ loads O R at_line known may meets names vars e) (claimed_shows d refl) behind_all,
              ),
            )
          where
            joined : (ps qs : List Obligation) → Shows O R nests IsMore ps → Shows O R nests IsMore qs → Shows O R nests IsMore (ps ++ qs)
            joined [] qs one two = two
            joined (x ∷ ps) qs one two = (one.0, joined ps qs one.1 two)

    -- ---- the body

    abbrev Stored : Statement → ℕ → Known → Type 0
    Stored s at_line known = StoreHere g fs k.nests places fetches first s at_line known

    abbrev Bound : Statement → ℕ → Known → Type 0
    Bound s at_line known = BoundHere g fs k.nests places (head_scope k) s at_line known

    abbrev Under : Statement → ℕ → Known → Type 0
    Under s at_line known = AllNamed O R (line + 1) (line + (lines (statement_of q.body) + 1)) s at_line known

    abbrev Three : Statement → ℕ → Known → Type 0
    Three s at_line known = (Stored s at_line known × Bound s at_line known) × Under s at_line known

    abbrev More : Obligation → Type 0
    More o = IsNameTest o.wanted → ⊥

    abbrev AllShown : Statement → ℕ → Known → Type 0
    AllShown s at_line known = IsStoreLine s → (nests : Nests) → Shows O R nests More (obligations O R s at_line known)

    one_store : (b m : ℕ) (cs : List Coordinate) (e : Term) (at_line : ℕ) (known : Known) (nests : Nests) → StoreAt g fs k.nests places fetches first (Store b m cs e) known →
        BoundAt g fs k.nests places (head_scope k) (Store b m cs e) known → Under (Store b m cs e) at_line known → Early ⊎ AreFit known cs →
        Shows O R nests More (obligations O R (Store b m cs e) at_line known)
    one_store b m cs e at_line known nests x y under fit =
        let d = x.definition in
        let one : y.definition ≡ d = sym y.stores.1 ∙ x.stores.1 in
        let y_nest : y.nest ≡ x.nest = some_same y.nest x.nest (sym (ap (slice_get k.nests) (sym one) ∙ y.stands) ∙ x.stands) in
        let stored = subst (λ (ls : Loads). IsStore g fs ls d x.nest (Store b m cs e)) x.loaded x.stores in
        let u = some_and (IsStored (all_loads g fs k.nests places fetches first d) (names_with f.variables f.changes d) x.nest cs e) (slice_get fs d) stored.2 in
        let scoped : scope_of known.binders ≡ bind_steps (head_scope k) x.nest.steps = y.scoped ∙ ap (λ (w : NestText). bind_steps (head_scope k) w.steps) y_nest in
        let shown_here = store_shows d x.nest x.stands u.0 u.1 nests at_line known cs e (refl, refl, stored.2) u.2 scoped x.held x.own under fit in
        subst (λ (s : Statement). Shows O R nests More (obligations O R s at_line known)) (λ i. Store (sym stored.0 i) (sym stored.1 i) cs e) shown_here

    one_shows : Early → (s : Statement) (at_line : ℕ) (known : Known) → Three s at_line known → AllShown s at_line known
    one_shows early (Store b m cs e) at_line known three one nests = one_store b m cs e at_line known nests (three.0.0 tt) (three.0.1 tt) three.1 (inl early)
    one_shows early (Seq ss) at_line known three one nests = absurd one
    one_shows early (For j x kind body) at_line known three one nests = absurd one
    one_shows early (Let j pick forms) at_line known three one nests = absurd one
    one_shows early (First j x z) at_line known three one nests = absurd one
    one_shows early (Guard low high body) at_line known three one nests = absurd one
    one_shows early (Alloc b x seats) at_line known three one nests = absurd one
    one_shows early (Fetch b x area) at_line known three one nests = absurd one
    one_shows early (Publish x) at_line known three one nests = absurd one

    -- it stores into the function's own buffer
    own_one : (s : Statement) (at_line : ℕ) (known : Known) → Three s at_line known → StoresIntoOwn s
    own_one (Store b m cs e) at_line known three = (three.0.0 tt).stores.0
    own_one (Seq ss) at_line known three = tt
    own_one (For j x kind body) at_line known three = tt
    own_one (Let j pick forms) at_line known three = tt
    own_one (First j x z) at_line known three = tt
    own_one (Guard low high body) at_line known three = tt
    own_one (Alloc b x seats) at_line known three = tt
    own_one (Fetch b x area) at_line known three = tt
    own_one (Publish x) at_line known three = tt

    -- what a store owes is shown, or a coordinate is not shown to be an i32
    abbrev AllTold : Statement → ℕ → Known → Type 0
    AllTold s at_line known = IsStoreLine s → (nests : Nests) → Shows O R nests More (obligations O R s at_line known) ⊎ IsWideStore R s known

    fit_by : (known : Known) (cs : List Coordinate) → list_all (λ c. is_i32 R known.binders c.index) cs ≡ true → AreFit known cs
    fit_by known [] h j c f at_c is = absurd (cc at_c)
    fit_by known (x ∷ cs) h zero c f at_c is =
        let parts = and_parts (is_i32 R known.binders x.index) (list_all (λ c. is_i32 R known.binders c.index) cs) h in
        let same_coordinate : x ≡ c = cc at_c in
        ap (is_i32 R known.binders) (sym is ∙ ap (λ (y : Coordinate). y.index) (sym same_coordinate)) ∙ parts.0
    fit_by known (x ∷ cs) h (suc j) c f at_c is =
        fit_by known cs (and_parts (is_i32 R known.binders x.index) (list_all (λ c. is_i32 R known.binders c.index) cs) h).1 j c f at_c is

    one_told : (s : Statement) (at_line : ℕ) (known : Known) → Three s at_line known → AllTold s at_line known
    one_told (Store b m cs e) at_line known three one nests = of (list_all (λ c. is_i32 R known.binders c.index) cs) refl
      where
        of : (v : Bool) → list_all (λ c. is_i32 R known.binders c.index) cs ≡ v → Shows O R nests More (obligations O R (Store b m cs e) at_line known) ⊎ IsWideStore R (Store b m cs e) known
        of true i32 = inl (one_store b m cs e at_line known nests (three.0.0 tt) (three.0.1 tt) three.1 (inr (fit_by known cs i32)))
        of false wide = inr wide
    one_told (Seq ss) at_line known three one nests = absurd one
    one_told (For j x kind body) at_line known three one nests = absurd one
    one_told (Let j pick forms) at_line known three one nests = absurd one
    one_told (First j x z) at_line known three one nests = absurd one
    one_told (Guard low high body) at_line known three one nests = absurd one
    one_told (Alloc b x seats) at_line known three one nests = absurd one
    one_told (Fetch b x area) at_line known three one nests = absurd one
    one_told (Publish x) at_line known three one nests = absurd one

    full : HasLines (statement_of q.body)
    full = subst HasLines (sym h.body.with.is) (body_has_lines g fs region _ _ _ 0 k.nests h.body.nests h.body.own h.body.nested (last_claim first h.body.fetches k) k.head
        (Alloc 0 g.subject.name places) (omega arith) tt h.body.fetches)

    all_three : EachLine O R Three (statement_of q.body) (body_line plan n) (start (grid_binders q.grid.items))
    all_three =
        let s = statement_of q.body in
        let begin = body_line plan n in
        let known = start (grid_binders q.grid.items) in
        let stored = body_stored a sch l well legal small kept all groups told free n q place f at there first line claims needs theirs h hold numbered lined in
        let under = each_named O R (line + 1) (line + (lines s + 1)) s begin known tt full (omega (arith, lined)) (omega (arith, lined)) in
        let two = lines_paired O R Stored Bound (λ t i y. Stored t i y × Bound t i y) (λ t i y x z. (x, z)) s begin known stored bound_all in
        lines_paired O R (λ t i y. Stored t i y × Bound t i y) Under Three (λ t i y x z. (x, z)) s begin known two under

    pub body_shows : Early → EachLine O R AllShown (statement_of q.body) (body_line plan n) (start (grid_binders q.grid.items))
    body_shows early = lines_weaker O R Three AllShown (one_shows early) (statement_of q.body) (body_line plan n) (start (grid_binders q.grid.items)) all_three

    pub body_told : EachLine O R AllTold (statement_of q.body) (body_line plan n) (start (grid_binders q.grid.items))
    body_told = lines_weaker O R Three AllTold one_told (statement_of q.body) (body_line plan n) (start (grid_binders q.grid.items)) all_three

    pub own_told : EachLine O R (λ s at_line known. StoresIntoOwn s) (statement_of q.body) (body_line plan n) (start (grid_binders q.grid.items))
    own_told = lines_weaker O R Three (λ s at_line known. StoresIntoOwn s) own_one (statement_of q.body) (body_line plan n) (start (grid_binders q.grid.items)) all_three
