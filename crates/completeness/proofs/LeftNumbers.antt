-- Where there are numbers of each loop, the ends of what an index stays within are in their order, too, where some coordinates are left indices: of these the number is their value.
use Rattle.std.proofs.Common.{◌≡◌, ℕ, ◌+◌, List, [], ◌∷◌, ◌++◌, length, map, Option, Some, None, IsSome, refl, sym, ap, ◌∙◌, subst, append_assoc, append-nil, arith}
use Rattle.std.specs.Prelude.{ℤ, pos, negsuc, ◌≤ℤ◌}
use Rattle.std.specs.List.{AllByRecursion}
use Rattle.std.proofs.lemmas.Int.{ints}
use Rattle.std.proofs.lemmas.List.{length-map}
use Rattle.numeric.specs.declared.ty.Ty.TheVariants.{I32}
use Rattle.tree.specs.Term.{Term}
use Rattle.tree.specs.Names.{IsIndex, AreAsTold, called_type}
use Rattle.tree.specs.Typing.{type_of}
use Rattle.tree.specs.Meaning.{value_of}
use Rattle.tree.proofs.Soundness.{does_as_typed}
use Rattle.lin.specs.Forms.{Form, value_of as form_value}
use Rattle.lin.specs.Spans.{IsInSpan, IsInRegion}
use Rattle.lin.specs.declared.span.Span1.{Span1}
use Rattle.bounds.specs.Spans.{range_of}
use Rattle.bounds.proofs.IntervalSound.{contains}
use Rattle.meaning.specs.Algorithm.{Algorithm}
use Rattle.meaning.specs.Names.{is_among}
use Rattle.meaning.specs.Conditions.{AreDistinct}
use Rattle.sched.specs.Called.{called}
use Rattle.sched.specs.Stored.{FormulaText, left_at}
use Rattle.sched.specs.Around.{AroundText, exactly, interval_in, form_span, coordinate_span, coordinates_behind}
use Rattle.regions.specs.Regions.{ends_of, are_within}
use Rattle.blocks.proofs.Laying.{bound, same}
use Rattle.completeness.proofs.Standing.{Taken}
use Rattle.completeness.proofs.Boxes.{AreBoxes}
use Rattle.completeness.proofs.FirstNumbers.{ends_hold, firsts, firsts_hold, number_at, index_near, behind, at_form, between, named, named_index, named_at, same_lists, zero_is, nothing}

abbrev Ends : Type 0
Ends = Taken _ _ are_within

-- ---- numbers of the coordinates, at the first numbers of loops

module _ (a : Algorithm) (t : AroundText) (boxes : AreBoxes t.scope) (zs : List ℤ) (indices : AllByRecursion IsIndex zs) (apart : AreDistinct t.variables) (long : length t.variables ≡ length zs)
    (inside : IsInRegion t.coordinates (firsts t.scope) zs) where
  abbrev v : ℕ → ℤ
  v = firsts t.scope

  abbrev values : List ℕ → ℤ
  values = named t.variables zs

  -- what an expression comes to there
  abbrev pub value : Term → ℤ
  value e = (value_of values (nothing a) e).number

  told : AreAsTold (is_among t.variables) (called a) values (nothing a)
  told =
      record {
        variables_within = λ name known. named_index t.variables zs name indices;
        answers_within = λ name at takes indices. record { ty = refl; within = zero_is (called_type (called a name)) };
      }

  all_named : map values t.variables ≡ zs
  all_named = same_lists values t.variables zs long (λ i x z at there. named_at t.variables zs i x z apart at there)

  pub value_lies : (e : Term) (span : Span1) → interval_in a t e ≡ Some span → IsSome (type_of (is_among t.variables) (called a) e) → IsInSpan span v (value e)
  value_lies e span bounds typed =
      contains t.scope (is_among t.variables) (called a) t.variables t.coordinates e span bounds typed v values (nothing a) (firsts_hold t.scope boxes) told
      (subst (λ (ys : List ℤ). IsInRegion t.coordinates v ys) (sym all_named) inside)

  pub value_index : (e : Term) → type_of (is_among t.variables) (called a) e ≡ Some I32 → IsIndex (value e)
  value_index e typed = (does_as_typed (is_among t.variables) (called a) values (nothing a) told e I32 typed).value.within

  pub ordered : (e : Term) (span : Span1) (ends : Ends) → interval_in a t e ≡ Some span → IsSome (type_of (is_among t.variables) (called a) e) → ends_of t.scope span ≡ Some ends →
      ends.low ≤ℤ ends.high
  ordered e span ends bounds typed freed =
      let both = ends_hold t.scope span ends v (value e) freed (firsts_hold t.scope boxes) (value_lies e span bounds typed) in
      let from = both.0 in
      let to = both.1 in
      omega (arith, ints, from, to)

-- ---- coordinates by forms, where any number stands for a left index

in_range : (v : ℕ → ℤ) → IsInSpan (range_of I32) v (pos 0)
in_range v = between (negsuc 2147483647) (pos 2147483647) (pos 0) v (omega (arith, ints)) (omega (arith, ints))

pub spans_in : (v : ℕ → ℤ) (os : List (Option Form)) → IsInRegion (map form_span os) v (map (number_at v) os)
spans_in v [] = tt
spans_in v (Some g ∷ os) = (at_form g v, spans_in v os)
spans_in v (None ∷ os) = (in_range v, spans_in v os)

-- ---- around a store

module _ (a : Algorithm) (left r : AroundText) (f : FormulaText) (os : List (Option Form)) (cs : List Span1) (forms : left.coordinates ≡ map form_span os)
    (stands : coordinates_behind a left f [] 0 os ≡ Some cs) (is : record left { coordinates = cs } ≡ r) (boxes : AreBoxes left.scope)
    (indices : AllByRecursion IsIndex (map (number_at (firsts left.scope)) os)) (apart : AreDistinct left.variables) (long : length left.variables ≡ length os)
    (lefts : (j : ℕ) (e : Term) → left_at f j ≡ Some e → type_of (is_among left.variables) (called a) e ≡ Some I32) where
  abbrev w : ℕ → ℤ
  w = firsts left.scope

  abbrev firsts_of : List ℤ
  firsts_of = map (number_at w) os

  many : length left.variables ≡ length firsts_of
  many = long ∙ sym (length-map os (number_at w))

  in_left : IsInRegion left.coordinates w firsts_of
  in_left = subst (λ (ss : List Span1). IsInRegion ss w firsts_of) (sym forms) (spans_in w os)

  -- the number of the coordinate at a place: of a left index its value
  abbrev of_left : Option Term → ℤ
  of_left None = pos 0
  of_left (Some e) = value a left boxes firsts_of indices apart many in_left e

  abbrev number : ℕ → Option Form → ℤ
  number d None = of_left (left_at f d)
  number d (Some g) = form_value g w

  abbrev numbers : ℕ → List (Option Form) → List ℤ
  numbers d [] = []
  numbers d (o ∷ os) = number d o ∷ numbers (d + 1) os

  coordinate_in : (o : Option Form) (d : ℕ) (s : Span1) → coordinate_span a left o (left_at f d) ≡ Some s → IsInSpan s w (number d o)
  coordinate_in (Some g) d s e = subst (λ (x : Span1). IsInSpan x w (form_value g w)) (same (exactly g) s e) (at_form g w)
  coordinate_in None d s e = of (left_at f d) refl e
    where
      of : (i : Option Term) → left_at f d ≡ i → coordinate_span a left None i ≡ Some s → IsInSpan s w (of_left i)
      of None k q = subst (λ (x : Span1). IsInSpan x w (pos 0)) (same (range_of I32) s q) (in_range w)
      of (Some t) k q = value_lies a left boxes firsts_of indices apart many in_left t s q (subst IsSome (sym (lefts d t k)) refl)

  coordinates_in : (before : List Span1) (zs : List ℤ) (d : ℕ) (us : List (Option Form)) (out : List Span1) → IsInRegion before w zs → coordinates_behind a left f before d us ≡ Some out →
      IsInRegion out w (zs ++ numbers d us)
  coordinates_in before zs d [] out h e =
      subst (λ (ys : List ℤ). IsInRegion out w ys) (sym (append-nil zs)) (subst (λ (ss : List Span1). IsInRegion ss w zs) (same before out e) h)
  coordinates_in before zs d (o ∷ us) out h e =
      let b = bound (coordinate_span a left o (left_at f d)) (λ s. coordinates_behind a left f (before ++ s ∷ []) (d + 1) us) out e in
      subst (λ (ys : List ℤ). IsInRegion out w ys) (append_assoc zs (number d o ∷ []) (numbers (d + 1) us))
      (coordinates_in (before ++ b.value ∷ []) (zs ++ number d o ∷ []) (d + 1) us out (behind before zs b.value (number d o) w h (coordinate_in o d b.value b.is)) b.comes)

  numbers_index : (d : ℕ) (us : List (Option Form)) → AllByRecursion IsIndex (map (number_at w) us) → AllByRecursion IsIndex (numbers d us)
  numbers_index d [] h = tt
  numbers_index d (Some g ∷ us) h = (h.0, numbers_index (d + 1) us h.1)
  numbers_index d (None ∷ us) h = (of (left_at f d) refl, numbers_index (d + 1) us h.1)
    where
      of : (i : Option Term) → left_at f d ≡ i → IsIndex (of_left i)
      of None k = index_near (pos 0) (omega arith)
      of (Some t) k = value_index a left boxes firsts_of indices apart many in_left t (lefts d t k)

  numbers_long : (d : ℕ) (us : List (Option Form)) → length (numbers d us) ≡ length us
  numbers_long d [] = refl
  numbers_long d (o ∷ us) = (let rest = numbers_long (d + 1) us in omega (arith, rest))

  abbrev around_it : AroundText
  around_it = record left { coordinates = cs }

  ordered_here : (e : Term) (span : Span1) (ends : Ends) → interval_in a around_it e ≡ Some span → IsSome (type_of (is_among left.variables) (called a) e) →
      ends_of left.scope span ≡ Some ends → ends.low ≤ℤ ends.high
  ordered_here =
      ordered a around_it boxes (numbers 0 os) (numbers_index 0 os indices) apart (long ∙ sym (numbers_long 0 os)) (coordinates_in [] [] 0 os cs tt stands)

  -- so are those of an index around the store
  pub around_ordered : (e : Term) (span : Span1) (ends : Ends) → interval_in a r e ≡ Some span → IsSome (type_of (is_among left.variables) (called a) e) → ends_of r.scope span ≡ Some ends →
      ends.low ≤ℤ ends.high
  around_ordered e span ends bounds typed freed =
      ordered_here e span ends (ap (λ (t : AroundText). interval_in a t e) is ∙ bounds) typed (ap (λ (t : AroundText). ends_of t.scope span) is ∙ freed)

  -- there is a number of what such an index stays within, at the first numbers of loops
  pub around_value : (e : Term) (span : Span1) → interval_in a r e ≡ Some span → IsSome (type_of (is_among left.variables) (called a) e) → (z : ℤ) × IsInSpan span (firsts r.scope) z
  around_value e span bounds typed =
      let inside = coordinates_in [] [] 0 os cs tt stands in
      let far_enough = long ∙ sym (numbers_long 0 os) in
      let z = value a around_it boxes (numbers 0 os) (numbers_index 0 os indices) apart far_enough inside e in
      let lies = value_lies a around_it boxes (numbers 0 os) (numbers_index 0 os indices) apart far_enough inside e span (ap (λ (t : AroundText). interval_in a t e) is ∙ bounds) typed in
      (z, subst (λ (t : AroundText). IsInSpan span (firsts t.scope) z) is lies)
