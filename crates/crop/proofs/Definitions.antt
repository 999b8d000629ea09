-- One definition of a function, moved.
use Rattle.std.proofs.Common.{◌≡◌, ℕ, ◌≤◌, List, [], ◌∷◌, length, Bool, true, false, Option, Some, None, IsSome, IsTrue, ℤ, pos, ◌≤ℤ◌, refl, sym, ap, ◌∙◌, subst, arith, if◌then◌else◌, ◌&&◌, int_le}
use Rattle.std.specs.Prelude.{map, All}
use Rattle.std.specs.List.{AllByRecursion}
use Rattle.std.proofs.lemmas.Int.{ints}
use Rattle.std.proofs.lemmas.List.Elements.{recursion_from_All}
use Rattle.numeric.specs.declared.ty.Ty.{Ty}
use Rattle.numeric.specs.declared.ty.Ty.TheVariants.{I32}
use Rattle.numeric.specs.Wrap.{IsOf}
use Rattle.tree.specs.declared.value.Value.{Value}
use Rattle.tree.specs.Term.{Term}
use Rattle.tree.specs.Meaning.{value_of}
use Rattle.tree.specs.Names.{AreAsTold, IsIndex, IsValueOf, TakesCall, called_type}
use Rattle.tree.specs.Typing.{type_of, shape_type}
use Rattle.tree.specs.Uses.{Asked, calls_made}
use Rattle.tree.specs.Laws.{CanBeAsked}
use Rattle.tree.proofs.Typed.{some_of}
use Rattle.tree.proofs.Soundness.{does_as_typed}
use Rattle.meaning.specs.Algorithm.{Function, Algorithm}
use Rattle.meaning.specs.Names.{is_among, bound}
use Rattle.meaning.specs.Value.{Calls, number_at}
use Rattle.meaning.proofs.Types.{AnswersAre}
use Rattle.lin.specs.declared.span.Span1.{Span1}
use Rattle.lin.specs.Spans.{HoldsIn, IsInSpan, IsInRegion}
use Rattle.crop.specs.declared.cut.Stretch.{Stretch}
use Rattle.bounds.specs.Spans.{numbers, are_of, ends_of}
use Rattle.bounds.specs.declared.ends.Ends.{Ends}
use Rattle.bounds.specs.Interval.{interval}
use Rattle.bounds.proofs.SpanSound.{Low, High, Lies, numbers-lies, ends-between}
use Rattle.bounds.proofs.IntervalSound.{contains, lies_span}
use Rattle.bounds.proofs.Fitting.{shape}
use Rattle.crop.specs.Moving.{Move, moved, shifted, against, moved_point}
use Rattle.crop.specs.Cutting.{Kept, Cut, spans_of, origin_named, region_named, small_ends, move_over, lefts_moved, IsInBox, InsideIf, HoldsSpan, HoldsSpans, IsCovered}
use Rattle.crop.proofs.Operators.{Within}
use Rattle.crop.proofs.Expressions.{stays, added, some_type}

-- no symbol is in scope: any assignment does
abbrev pub none : ℕ → ℤ
none n = pos 0

pub holds_none : HoldsIn [] none
holds_none n binding e = cc

pub span_lies : (s : Span1) (v : ℕ → ℤ) (z : ℤ) → IsInSpan s v z → Lies s v z
span_lies s v z h = (recursion_from_All (Low v z) s.lower h.0, recursion_from_All (High v z) s.upper h.1)

-- a point of a box, as one of a region
pub box_region : (b : List Stretch) (p : List ℤ) → IsInBox b p → IsInRegion (spans_of b) none p
box_region [] [] h = h
box_region [] (z ∷ zs) h = h
box_region (e ∷ es) [] h = h
box_region (e ∷ es) (z ∷ zs) h = (lies_span (numbers e.low e.high) none z (numbers-lies e.low e.high none z h.0 h.1), box_region es zs h.2)

some_stretch : (x y : Stretch) → Some x ≡ Some y → x ≡ y
some_stretch x y e = cc

-- the value lies between constant ends, if there are any
abbrev Between : Option Ends → ℤ → Type 0
Between o z = (r : Ends) → o ≡ Some r → (r.low ≤ℤ z) × (z ≤ℤ r.high)

small_within : (o : Option Ends) (z : ℤ) → Between o z → Within (small_ends o) z
small_within None z h = λ r d. cc
small_within (Some e) z h = λ r d. by (are_of I32 e && int_le e.low e.high) r d
  where
    by : (b : Bool) (r : Stretch) → (if b then Some (record { low = e.low; high = e.high }) else None) ≡ Some r → (r.low ≤ℤ z) × (z ≤ℤ r.high)
    by false r d = cc
    by true r d = let same : record { low = e.low; high = e.high } ≡ r = some_stretch (record { low = e.low; high = e.high }) r d in subst (λ (u : Stretch). (u.low ≤ℤ z) × (z ≤ℤ u.high)) same
        (h e refl)

held : (e : Stretch) (o : Option Ends) (z : ℤ) → HoldsSpan e o → Between o z → (e.low ≤ℤ z) × (z ≤ℤ e.high)
held e None z h g = absurd h
held e (Some r) z h g = let b = g r refl in let c = b.0 in let d = b.1 in let x = h.0 in let y = h.1 in (omega (arith, ints, c, x), omega (arith, ints, d, y))

-- a point of spans that lie in a box is one of the box
pub region_box : (b : List Stretch) (r : List Span1) (p : List ℤ) → HoldsSpans b r → IsInRegion r none p → IsInBox b p
region_box [] [] [] h g = g
region_box [] [] (z ∷ zs) h g = g
region_box [] (s ∷ ss) p h g = absurd h
region_box (e ∷ es) [] p h g = absurd h
region_box (e ∷ es) (s ∷ ss) [] h g = absurd g
region_box (e ∷ es) (s ∷ ss) (z ∷ zs) h g =
    let x = held e (ends_of [] s) z h.0 (ends-between [] none holds_none s z (span_lies s none z g.0)) in
    (x.0, x.1, region_box es ss zs h.1 g.1)

-- a call that is made at a point of the region that is needed is inside
pub covered : (box : Option (List Stretch)) (found : List Span1) (p : List ℤ) → IsCovered box (Some found) → 1 ≤ length p → IsInRegion found none p → InsideIf box p
covered box [] [] c l g = absurd (omega (arith, l))
covered box [] (z ∷ zs) c l g = absurd g
covered None (s ∷ ss) p c l g = absurd c
covered (Some b) (s ∷ ss) p c l g = region_box b (s ∷ ss) p c g

-- answers of declared types are as told
answered : (o : Option (Ty × ℕ)) (functions : List ℕ → Option (Ty × ℕ)) (calls : Calls) → AnswersAre functions calls → (name : List ℕ) (at : List ℤ) → functions name ≡ o
    → TakesCall o (length at) → All (IsOf I32) at
    → IsValueOf (called_type o) (calls name at)
answered None functions calls h name at e takes inside = absurd takes
answered (Some s) functions calls h name at e takes inside = let v = h name s e at inside in record { ty = v.ty; within = v.within }

pub as_told : (known : List ℕ → Bool) (functions : List ℕ → Option (Ty × ℕ)) (v : List ℕ → ℤ) (calls : Calls) → ((name : List ℕ) → IsOf I32 (v name)) → AnswersAre functions calls
    → AreAsTold known functions v calls
as_told known functions v calls i h = record {
  variables_within = λ name k. i name;
  answers_within = λ name at takes inside. answered (functions name) functions calls h name at refl takes inside;
}

module _ (a : Algorithm) (cut : Cut) (f : Function) (kept : Kept) (functions : List ℕ → Option (Ty × ℕ)) (names : List (List ℕ)) (p q : List ℤ) (region : List Span1) (calls others : Calls)
    (told : AreAsTold (is_among names) functions (bound names p) calls)
    (inside : IsInRegion region none (map (bound names p) names))
    (within : (name : List ℕ) → IsOf I32 (bound names q name))
    (moves : (name : List ℕ) → IsTrue (is_among names name) → bound names p name ≡ shifted (bound f.variables kept.origin name) (bound names q name))
    (arity : (name : List ℕ) (n : ℕ) → TakesCall (functions name) n → 1 ≤ n)
    (agree : (name : List ℕ) (at : List ℤ) → AllByRecursion IsIndex at → IsSome (functions name) → InsideIf (region_named a cut name) at
    → others name (moved_point (map against (origin_named a cut name)) at) ≡ calls name at) where
  abbrev m : Move
  m = move_over a cut functions f.variables kept.origin names region

  abbrev Typed : Term → Type 0
  Typed e = IsSome (type_of (is_among names) functions e)

  -- a call of one name is inside
  abbrev Reaches : List ℕ → Asked → Type 0
  Reaches callee c = c.name ≡ callee → 1 ≤ length c.at → InsideIf (region_named a cut callee) c.at

  abbrev pub AllReach : Term → Type 0
  AllReach e = (callee : List ℕ) → IsSome (functions callee) → AllByRecursion (Reaches callee) (calls_made (bound names p) calls e)

  abbrev In : List ℕ → List ℤ → Type 0
  In name at = IsSome (functions name) × InsideIf (region_named a cut name) at

  takes_some : (o : Option (Ty × ℕ)) (n : ℕ) → TakesCall o n → IsSome o
  takes_some None n h = absurd h
  takes_some (Some s) n h = refl

  each : (cs : List Asked) → ((callee : List ℕ) → IsSome (functions callee) → AllByRecursion (Reaches callee) cs) → AllByRecursion (CanBeAsked functions) cs
      → AllByRecursion (λ c. In c.name c.at) cs
  each [] h t = tt
  each (c ∷ cs) h t =
      let known = takes_some (functions c.name) (length c.at) t.0.known in
      ((known, (h c.name known).0 refl (arity c.name (length c.at) t.0.known)), each cs (λ callee some. (h callee some).1) t.1)

  asked : (e : Term) → Typed e → AllReach e → AllByRecursion (λ c. In c.name c.at) (calls_made (bound names p) calls e)
  asked e h r =
      let can = (does_as_typed (is_among names) functions (bound names p) calls told e (shape_type functions e) (shape (is_among names) functions e h)).calls in
      each (calls_made (bound names p) calls e) r (recursion_from_All (CanBeAsked functions) (calls_made (bound names p) calls e) can)

  between_if : (e : Term) → Typed e → (o : Option Span1) → interval [] functions names region e ≡ o
      → Within (elim o [ Some s ↦ small_ends (ends_of [] s) | None ↦ None ]) (value_of (bound names p) calls e).number
  between_if e h None i = λ r d. cc
  between_if e h (Some s) i =
      let z = (value_of (bound names p) calls e).number in
      small_within (ends_of [] s) z (ends-between [] none holds_none s z (span_lies s none z (contains [] (is_among names) functions names region e s i h none (bound names p) calls holds_none
      told inside)))

  between : (e : Term) → Typed e → Within (m.ends e) (value_of (bound names p) calls e).number
  between e h = between_if e h (interval [] functions names region e) refl

  pub value_stays : (e : Term) → Typed e → AllReach e → value_of (bound names q) others (moved m (pos 0) e) ≡ value_of (bound names p) calls e
  value_stays e h r = stays m (is_among names) (bound names p) (bound names q) calls others In told (λ name k. within name) moves (λ name at i g. agree name at i g.0 g.1) between e h (asked e h r)

  pub number_stays : (e : Term) → Typed e → AllReach e → number_at others names q (moved m (pos 0) e) ≡ number_at calls names p e
  number_stays e h r = ap (λ (u : Value). u.number) (value_stays e h r)

  -- the left side of an update
  pub lefts_stay : (os : List ℤ) (es : List Term) → AllByRecursion (λ e. type_of (is_among names) functions e ≡ Some I32) es → AllByRecursion AllReach es
      → map (number_at others names q) (lefts_moved a cut m os es) ≡ moved_point (map against os) (map (number_at calls names p) es)
  lefts_stay [] [] t r = refl
  lefts_stay (o ∷ os) [] t r = refl
  lefts_stay [] (e ∷ es) t r =
      let h = some_of (Some I32) (type_of (is_among names) functions e) (sym t.0) refl in
      λ i. number_stays e h r.0 i ∷ lefts_stay [] es t.1 r.1 i
  lefts_stay (o ∷ os) (e ∷ es) t r =
      let h = some_of (Some I32) (type_of (is_among names) functions e) (sym t.0) refl in
      let i32 : shape_type functions e ≡ I32 = some_type (shape_type functions e) I32 (sym (shape (is_among names) functions e h) ∙ t.0) in
      let here = added m (is_among names) (bound names p) (bound names q) calls others In told (λ name k. within name) moves (λ name at i g. agree name at i g.0 g.1) between e h i32 (asked e h
      r.0) (against o) in
      λ i. (here i).number ∷ lefts_stay os es t.1 r.1 i
