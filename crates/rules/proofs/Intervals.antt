-- The value of an expression lies in its bounds.
use Rattle.std.proofs.Common.{◌≡◌, ℕ, Bool, true, false, List, [], ◌∷◌, map, length, Option, Some, None, IsSome, refl, sym, ap, ◌∙◌, subst, arith}
use Rattle.std.specs.Prelude.{ℤ, pos, ◌==◌, ◌||◌, if◌then◌else◌, is_some, option_map}
use Rattle.std.specs.List.{list_all}
use Rattle.std.proofs.lemmas.Int.{ints}
use Rattle.std.proofs.lemmas.List.Elements.{All-nil, All-cons}
use Rattle.numeric.specs.declared.ty.Ty.{Ty}
use Rattle.numeric.specs.declared.ty.Ty.TheVariants.{I32}
use Rattle.numeric.specs.Wrap.{IsOf}
use Rattle.numeric.specs.Apply.{result_type}
use Rattle.tree.specs.Meaning.{value_of}
use Rattle.tree.specs.Names.{AreAsTold}
use Rattle.tree.specs.Term.{Term, Number, Name, Call, Minus, Binary, Clamp, Cast, Choice}
use Rattle.tree.specs.Typing.{type_of, shape_type}
use Rattle.meaning.specs.Algorithm.{Algorithm}
use Rattle.meaning.specs.Conditions.{IsAlgorithm}
use Rattle.meaning.specs.Functions.{IsPoint, AreSamples}
use Rattle.meaning.specs.Names.{same_name, is_among, bound}
use Rattle.meaning.proofs.Cases.{same_name_is}
use Rattle.meaning.proofs.Types.{bound_is}
use Rattle.lin.specs.Spans.{IsInSpan, IsInRegion}
use Rattle.lin.specs.declared.scope.Binding.{Binding}
use Rattle.lin.specs.declared.span.Span1.{Span1}
use Rattle.lin.proofs.RegionLemmas.{span_inside-means}
use Rattle.bounds.specs.Interval.{span_named, coordinate_of, literal_of, both, interval}
use Rattle.bounds.specs.Spans.{range_of, exactly, fitted, difference_of, minimum_of, maximum_of, choice_of, binary_of}
use Rattle.bounds.proofs.IntervalSound.{contains}
use Rattle.plan.specs.Plan.{Group, Plan}
use Rattle.plan.specs.Symbols.{Symbols}
use Rattle.plan.specs.Certificate.Certificate.{Certificate}
use Rattle.soundness.specs.Given.{outline_of, given_of}
use Rattle.soundness.specs.Obligations.{Lies, LieIn, Binder, Respects, anything}
use Rattle.soundness.specs.Origins.{Given, Reader, answer}
use Rattle.soundness.proofs.Forms.{lies_range, range_lies}
use Rattle.soundness.proofs.Refines.{and_parts, eq_true}
use Rattle.headline.specs.Sound.{IsOnInput}
use Rattle.rules.specs.Bounding.Called.{called}
use Rattle.rules.specs.Bounding.Rules.{is_index_span, or_anything, is_bounded_in, known_interval}
use Rattle.rules.specs.Bounding.Scopes.{scope_of}
use Rattle.rules.proofs.Calls.{answers_typed}
use Rattle.rules.proofs.Scopes.{nowhere, scope_holds}

-- ---- the spans of names, of which the first of a name counts

named_lies : (s : Symbols) (names : List (List ℕ)) (vars : List Span1) (p : List ℤ) → LieIn s vars p → (name : List ℕ) (x : Span1) → span_named names vars name ≡ Some x → Lies s x (bound names p name)
named_lies s [] [] p h name x e = absurd (cc e)
named_lies s [] (y ∷ ys) p h name x e = absurd (cc e)
named_lies s (n ∷ ns) [] p h name x e = absurd (cc e)
named_lies s (n ∷ ns) (y ∷ ys) [] h name x e = absurd h
named_lies s (n ∷ ns) (y ∷ ys) (z ∷ zs) h name x e = of (same_name n name) e (named_lies s ns ys zs h.1 name x)
  where
    of : (v : Bool) → (if v then Some y else span_named ns ys name) ≡ Some x → (span_named ns ys name ≡ Some x → Lies s x (bound ns zs name)) → Lies s x (elim v [ true ↦ z | false ↦ bound ns zs name ])
    of true k rest = let same : y ≡ x = cc in subst (λ t. Lies s t z) same h.0
    of false k rest = rest k

module _ (h : List ℕ → Span1) where
  named_map : (names : List (List ℕ)) (name : List ℕ) → span_named names (map h names) name ≡ (if is_among names name then Some (h name) else None)
  named_map [] name = refl
  named_map (n ∷ ns) name = of (same_name n name) refl (named_map ns name)
    where
      of : (v : Bool) → same_name n name ≡ v → span_named ns (map h ns) name ≡ (if is_among ns name then Some (h name) else None) →
          (if v then Some (h n) else span_named ns (map h ns) name) ≡ (if v || is_among ns name then Some (h name) else None)
      of true e rest = ap (λ m. Some (h m)) (same_name_is n name e)
      of false e rest = rest

named_if : (names : List (List ℕ)) (vars : List Span1) (name : List ℕ) → length names ≡ length vars →
    span_named names vars name ≡ (if is_among names name then Some (or_anything (span_named names vars name)) else None)
named_if [] [] name e = refl
named_if [] (y ∷ ys) name e = absurd (omega (arith, e))
named_if (n ∷ ns) [] name e = absurd (omega (arith, e))
named_if (n ∷ ns) (y ∷ ys) name e = of (same_name n name) (named_if ns ys name (omega (arith, e)))
  where
    of : (v : Bool) → span_named ns ys name ≡ (if is_among ns name then Some (or_anything (span_named ns ys name)) else None) →
        (if v then Some y else span_named ns ys name) ≡ (if v || is_among ns name then Some (or_anything (if v then Some y else span_named ns ys name)) else None)
    of true rest = refl
    of false rest = rest

-- ---- bounds depend on the spans of names alone

module _ (scope : List Binding) (functions : List ℕ → Option (Ty × ℕ)) (names : List (List ℕ)) (u v : List Span1) (same : (name : List ℕ) → span_named names u name ≡ span_named names v name) where
  interval_same : (e : Term) → interval scope functions names u e ≡ interval scope functions names v e
  interval_same (Number t n) = refl
  interval_same (Name name) = ap coordinate_of (same name)
  interval_same (Call name at) = refl
  interval_same (Minus a) = ap (λ x. both (exactly (pos 0)) x (λ zero s. difference_of scope (shape_type functions a) zero s)) (interval_same a)
  interval_same (Binary op a b) =
      let f : Option Span1 → Option Span1 → Option Span1 = λ x y. both x y (λ s t. binary_of scope op (result_type op (shape_type functions a)) (literal_of a) (literal_of b) s t) in
      ap (λ x. f x (interval scope functions names u b)) (interval_same a) ∙ ap (λ y. f (interval scope functions names v a) y) (interval_same b)
  interval_same (Clamp a l h) =
      let f : Option Span1 → Option Span1 → Option Span1 → Option Span1 = λ x y z. both (both x z (λ s t. minimum_of scope (shape_type functions a) s t)) y (λ s t. maximum_of scope (shape_type functions a) s t) in
      ap (λ x. f x (interval scope functions names u l) (interval scope functions names u h)) (interval_same a)
      ∙ ap (λ y. f (interval scope functions names v a) y (interval scope functions names u h)) (interval_same l)
      ∙ ap (λ z. f (interval scope functions names v a) (interval scope functions names v l) z) (interval_same h)
  interval_same (Cast t a) = ap (option_map (fitted scope t)) (interval_same a)
  interval_same (Choice c a b) =
      let f : Option Span1 → Option Span1 → Option Span1 = λ x y. both x y (λ s t. choice_of scope (shape_type functions a) s t) in
      ap (λ x. f x (interval scope functions names u b)) (interval_same a) ∙ ap (λ y. f (interval scope functions names v a) y) (interval_same b)

-- ---- the numbers of the variables

module _ (bs : List Binder) (s : Symbols) (r : Respects bs s) where
  index_is : (x : Span1) (z : ℤ) → is_index_span (scope_of bs) x ≡ true → Lies s x z → IsOf I32 z
  index_is x z h l =
      let ends = lies_range s (range_of I32) z (span_inside-means (scope_of bs) x (range_of I32) h s.value (scope_holds bs s r) z (range_lies s x z l)) in
      let low = ends.0.0 in
      let high = ends.1.0 in
      record { from = omega (arith, ints, low); to = omega (arith, ints, high) }

  indices_are : (vars : List Span1) (p : List ℤ) → list_all (is_index_span (scope_of bs)) vars ≡ true → LieIn s vars p → IsPoint p
  indices_are [] [] h l = All-nil (IsOf I32)
  indices_are [] (z ∷ zs) h l = absurd l
  indices_are (x ∷ xs) [] h l = absurd l
  indices_are (x ∷ xs) (z ∷ zs) h l =
      let k = and_parts (is_index_span (scope_of bs) x) (list_all (is_index_span (scope_of bs)) xs) h in
      All-cons (IsOf I32) z zs (index_is x z k.0 l.0) (indices_are xs zs k.1 l.1)

  -- each name's number lies in the first span of the name
  module _ (names : List (List ℕ)) (vars : List Span1) (p : List ℤ) (l : LieIn s vars p) where
    abbrev first_span : List ℕ → Span1
    first_span name = or_anything (span_named names vars name)

    first_lies : (name : List ℕ) → IsInSpan (first_span name) s.value (bound names p name)
    first_lies name = of (span_named names vars name) refl
      where
        of : (o : Option Span1) → span_named names vars name ≡ o → IsInSpan (or_anything o) s.value (bound names p name)
        of None e = nowhere s.value (bound names p name)
        of (Some x) e = range_lies s x (bound names p name) (named_lies s names vars p l name x e)

    first_inside : (ns : List (List ℕ)) → IsInRegion (map first_span ns) s.value (map (bound names p) ns)
    first_inside [] = tt
    first_inside (n ∷ ns) = (first_lies n, first_inside ns)

    first_same : length names ≡ length vars → (name : List ℕ) → span_named names vars name ≡ span_named names (map first_span names) name
    first_same e name = named_if names vars name e ∙ sym (named_map first_span names name)

-- ---- whole expressions

module _ (a : Algorithm) (samples : List ℕ) (w : IsAlgorithm a) (in_type : AreSamples a samples) (p : Plan) (c : Certificate) (n : ℕ) (g : Group) (on : IsOnInput a p) where
  abbrev G : Given
  G = given_of a samples (outline_of p c n g)

  module _ (bs : List Binder) (names : List (List ℕ)) (vars : List Span1) (e : Term) (r : Reader) (s : Symbols) (at : List ℤ) (respects : Respects bs s) (lie : LieIn s vars at) where
    abbrev number : ℤ
    number = (value_of (bound names at) (answer G r) e).number

    told : list_all (is_index_span (scope_of bs)) vars ≡ true → AreAsTold (is_among names) (called a p c) (bound names at) (answer G r)
    told h = record {
      variables_within = λ name k. bound_is names at name (indices_are bs s respects vars at h lie);
      answers_within = λ name q t i. answers_typed a samples w in_type p c n g on r name q t i;
    }

    some_lies : (o : Option Span1) → interval (scope_of bs) (called a p c) names vars e ≡ o → list_all (is_index_span (scope_of bs)) vars ≡ true → length names ≡ length vars →
        IsSome (type_of (is_among names) (called a p c) e) → Lies s (or_anything o) number
    some_lies None k h m t = (tt, tt)
    some_lies (Some x) k h m t =
        let first = map (first_span bs s respects names vars at lie) names in
        let same : interval (scope_of bs) (called a p c) names first e ≡ Some x =
        sym (interval_same (scope_of bs) (called a p c) names vars first (first_same bs s respects names vars at lie m) e) ∙ k in
        lies_range s x number
        (contains (scope_of bs) (is_among names) (called a p c) names first e x same t s.value (bound names at) (answer G r) (scope_holds bs s respects) (told h) (first_inside bs s respects names vars at lie names))

    if_lies : (v : Bool) → is_bounded_in a p c (scope_of bs) names vars e ≡ v → Lies s (if v then or_anything (interval (scope_of bs) (called a p c) names vars e) else anything) number
    if_lies false h = (tt, tt)
    if_lies true h =
        let k = and_parts (list_all (is_index_span (scope_of bs)) vars) _ h in
        let m = and_parts (length names == length vars) (is_some (type_of (is_among names) (called a p c) e)) k.1 in
        some_lies _ refl k.0 (eq_true (length names) (length vars) m.0) m.1

    pub bounded : Lies s (known_interval a p c bs names vars e) number
    bounded = if_lies (is_bounded_in a p c (scope_of bs) names vars e) refl
