-- Root functions have few numbers in each dimension; turns over these are over some numbers, that are not far from 0, or near where the first one is.
use Rattle.std.proofs.Common.{◌≡◌, ℕ, zero, suc, ◌<◌, ◌≤◌, ◌^◌, Bool, true, false, List, [], ◌∷◌, Option, Some, None, refl, sym, ap, ◌∙◌, subst, inl, inr, arith}
use Rattle.std.specs.Prelude.{ℤ, pos, negsuc, ◌+ℤ◌, ◌-ℤ◌, ◌≤ℤ◌, nat_le, if◌then◌else◌, slice_get}
use Rattle.std.specs.List.{AllByRecursion}
use Rattle.std.specs.Int.RustNames.{unsigned_abs}
use Rattle.std.proofs.lemmas.Bool.Decides.{nat_tests}
use Rattle.std.proofs.lemmas.Int.{ints}
use Rattle.lin.specs.declared.scope.Binding.{Binding}
use Rattle.meaning.specs.Algorithm.{Algorithm}
use Rattle.soundness.proofs.Refines.{and_parts}
use Rattle.sched.specs.declared.placing.Loop.{Loop}
use Rattle.sched.specs.declared.numbers.Extent.{Extent}
use Rattle.sched.specs.declared.numbers.Numbers.{Numbers}
use Rattle.sched.specs.declared.nest.Turning.{Turning}
use Rattle.sched.specs.Numbers.{numbers_named}
use Rattle.sched.specs.Standing.{◌>>=◌}
use Rattle.sched.specs.Skeleton.{loop_turning}
use Rattle.sched.specs.Stored.{FormulaText, StoredText}
use Rattle.regions.specs.Faults.{is_whole, is_homeless, are_whole}
use Rattle.sched.specs.Around.{grid_symbol}
use Rattle.sched.specs.Regions.{LaidText}
use Rattle.regions.specs.Regions.{extent_between, may_have, extent_of, region_of, reach_of, laid_over, laid_by, laid_within, laid_functions, are_within}
use Rattle.blocks.proofs.Laying.{bound, same}
use Rattle.lower.proofs.Reached.{laid_found}
use Rattle.completeness.proofs.Standing.{Taken}
use Rattle.completeness.proofs.Boxes.{IsBox, weight_of, both_under}

abbrev Ends : Type 0
Ends = Taken _ _ are_within

-- ---- root functions have few numbers in a dimension

abbrev pub IsFew : Extent → Type 0
IsFew x = x.count ≤ 8192

extent_few : (o : Option Ends) (x : Extent) → extent_of true o ≡ Some x → IsFew x
extent_few o x h =
    let step : Extent → Option Extent = λ y. if may_have true y.count then Some y else None in
    let b = bound (o >>= extent_between) step x h in
    of b.value (nat_le b.value.count 8192) refl b.comes
  where
    of : (y : Extent) (t : Bool) → nat_le y.count 8192 ≡ t → (if t then Some y else None) ≡ Some x → IsFew x
    of y true e q = subst IsFew (same y x q) (grind (arith, nat_tests, e))
    of y false e q = absurd (cc q)

region_few : (reach : List (Option Ends)) (es : List Extent) → region_of true reach ≡ Some es → AllByRecursion IsFew es
region_few [] es h = subst (AllByRecursion IsFew) (same [] es h) tt
region_few (o ∷ os) es h =
    let b = bound (extent_of true o) (λ x. region_of true os >>= λ xs. Some (x ∷ xs)) es h in
    let c = bound (region_of true os) (λ xs. Some (b.value ∷ xs)) es b.comes in
    subst (AllByRecursion IsFew) (same (b.value ∷ c.value) es c.comes) (extent_few o b.value b.is, region_few os c.value c.is)

laid_few : (a : Algorithm) (g : StoredText) (later : List StoredText) (found : List (Option LaidText)) (l : LaidText) → g.subject.is_root ≡ true → laid_within a g later found ≡ Some l →
    AllByRecursion IsFew l.region
laid_few a g later found l root h = of g.formulas h
  where
    of : (o : Option (List FormulaText)) → laid_by a g o later found ≡ Some l → AllByRecursion IsFew l.region
    of None q = absurd (cc q)
    of (Some fs) q =
        let b = bound (reach_of a g later found) (laid_over a g fs) l q in
        let f = laid_found a g fs b.value l b.comes in
        region_few f.wide l.region (ap (λ (t : Bool). region_of t f.wide) (sym root) ∙ f.is)

-- of functions that are all computed at no loop
pub regions_few : (a : Algorithm) (gs : List StoredText) (n : ℕ) (l : LaidText) → are_whole gs ≡ true → slice_get (laid_functions a gs) n ≡ Some (Some l) → AllByRecursion IsFew l.region
regions_few a [] n l all laid = absurd (cc laid)
regions_few a (s ∷ later) zero l all laid =
    let here = (and_parts (is_whole s) (are_whole later) all).0 in
    laid_few a s later (laid_functions a later) l (and_parts s.subject.is_root (is_homeless s.placed.homes) here).0 (same (laid_within a s later (laid_functions a later)) (Some l) laid)
regions_few a (s ∷ later) (suc n) l all laid = regions_few a later n l (and_parts (is_whole s) (are_whole later) all).1 laid

-- ---- scopes of loops

-- over some numbers within 73,728
abbrev pub IsBoxTurn : Turning → Type 0
IsBoxTurn t = (unsigned_abs t.low ≤ 73728) × (unsigned_abs t.last ≤ 73728) × (t.low ≤ℤ t.last)

-- over some numbers, of which the first is one of 32 bits
pub record IsTurn (t : Turning) : Type 0 where
  pub from : negsuc 2147483647 ≤ℤ t.low
  pub to : t.low ≤ℤ pos 2147483647
  pub last : unsigned_abs t.last ≤ 2 ^ 32
  pub some : t.low ≤ℤ t.last

pub box_turn : (t : Turning) → IsBoxTurn t → IsTurn t
box_turn t h = of t.low t.last h.0 h.1 h.2
  where
    of : (low last : ℤ) → unsigned_abs low ≤ 73728 → unsigned_abs last ≤ 73728 → low ≤ℤ last → IsTurn (record t { low = low; last = last })
    of low last h k q = record { from = omega (arith, ints, h); to = omega (arith, ints, h); last = omega (arith, k); some = q }

-- ---- the loops of a function

pub record AreFewNumbers (r : Numbers) : Type 0 where
  pub from : negsuc 2147483647 ≤ℤ r.low
  pub to : r.low ≤ℤ pos 2147483647
  pub some : 0 < r.count
  pub few : r.count ≤ 8192

pub turn_few : (rs : List Numbers) (o : Loop) → AreFewNumbers (numbers_named rs o.name) → IsTurn (loop_turning rs o)
turn_few rs o h = of (numbers_named rs o.name) h.from h.to h.some h.few
  where
    of : (r : Numbers) → negsuc 2147483647 ≤ℤ r.low → r.low ≤ℤ pos 2147483647 → 0 < r.count → r.count ≤ 8192 →
        IsTurn (record (loop_turning rs o) { low = r.low; last = r.low +ℤ pos r.count -ℤ pos 1 })
    of r from to some few = record { from = from; to = to; last = omega (arith, ints, from, to, some, few); some = omega (arith, ints, some) }

pub turn_box : (rs : List Numbers) (o : Loop) → AreFewNumbers (numbers_named rs o.name) → unsigned_abs (numbers_named rs o.name).low ≤ 65536 → IsBoxTurn (loop_turning rs o)
turn_box rs o h close = of (numbers_named rs o.name) close h.some h.few
  where
    of : (r : Numbers) → unsigned_abs r.low ≤ 65536 → 0 < r.count → r.count ≤ 8192 →
        (unsigned_abs r.low ≤ 73728) × (unsigned_abs (r.low +ℤ pos r.count -ℤ pos 1) ≤ 73728) × (r.low ≤ℤ (r.low +ℤ pos r.count -ℤ pos 1))
    of r near some few = (omega (arith, near), omega (arith, ints, near, some, few), omega (arith, ints, some))

abbrev pub IsCount : ℕ → Type 0
IsCount n = (0 < n) × (n ≤ 8192)

pub count_box : (scope : List Binding) (n : ℕ) → IsCount n → IsBox scope (grid_symbol n)
count_box scope n h = (let some = h.0 in inr (inl (pos 0, pos n -ℤ pos 1, refl, omega (arith, ints, some))))

pub count_weight : (n : ℕ) → IsCount n → weight_of (Some (grid_symbol n)) ≤ 8192
count_weight n h = (let some = h.0 in let few = h.1 in both_under 0 (unsigned_abs (pos n -ℤ pos 1)) 8192 (omega arith) (omega (arith, ints, some, few)))
