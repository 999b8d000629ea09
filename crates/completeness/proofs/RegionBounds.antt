-- The ends of regions are 32-bit numbers, and where no rule is broken, each index of the input in a definition is shown to lie on its extent.
use Rattle.std.proofs.Common.{◌≡◌, ℕ, zero, suc, Bool, true, false, ◌&&◌, List, [], ◌∷◌, Option, Some, None, refl, sym, ap, ◌∙◌, subst, arith}
use Rattle.std.specs.Prelude.{ℤ, pos, negsuc, ◌+ℤ◌, ◌-ℤ◌, ◌≤ℤ◌, int_le, if◌then◌else◌, slice_get}
use Rattle.std.specs.List.{AllByRecursion}
use Rattle.std.proofs.lemmas.Int.{ints}
use Rattle.lin.specs.declared.span.Span1.{Span1}
use Rattle.meaning.specs.Algorithm.{Algorithm}
use Rattle.meaning.specs.Names.{same_name}
use Rattle.meaning.proofs.InliningTyped.{both_true}
use Rattle.algo.specs.Scoping.Standing.{Written}
use Rattle.sched.specs.declared.numbers.Extent.{Extent}
use Rattle.sched.specs.declared.region_rule.RegionRule.{RegionRule}
use Rattle.sched.specs.declared.region_rule.RegionRule.TheVariants.{ShortShift, TooMuch}
use Rattle.sched.specs.Standing.{◌>>=◌}
use Rattle.sched.specs.Stored.{FormulaText, StoredText}
use Rattle.sched.specs.Regions.{LaidText, count_of}
use Rattle.regions.specs.Regions.{is_i32, are_within, extent_between, may_have, extent_of, region_of, reach_of, laid_over, laid_by}
use Rattle.regions.specs.Regions.{laid_within, laid_functions}
use Rattle.sched.specs.Around.{AroundText}
use Rattle.blocks.specs.Bounded.{is_on_input, is_in_region, is_call_bounded, are_bounded, is_root_bounded}
use Rattle.blocks.specs.Faults.{with_laid, totals_with, is_shifted_little, pass_limits, unless_bounded, fault_within}
use Rattle.lower.specs.Faults.{fault_by, fault_of, or_later, fault_from}
use Rattle.blocks.proofs.Laying.{bound, same}
use Rattle.lower.proofs.Reached.{laid_found}
use Rattle.completeness.proofs.Standing.{Taken}

-- ---- ends

-- the ends of what is needed of a dimension, and what root functions have together
abbrev Ends : Type 0
Ends = Taken _ _ are_within

abbrev Totals : Type 0
Totals = Taken _ _ pass_limits

-- the last number of the extent is a 32-bit one
abbrev pub IsEnded : Extent → Type 0
IsEnded e = (e.low +ℤ pos e.count -ℤ pos 1) ≤ℤ pos 2147483647

at_most : (y z : ℤ) → int_le y z ≡ true → y ≤ℤ z
at_most y z h = grind (arith, ints)

last_is : (low high y : ℤ) → high -ℤ low +ℤ pos 1 ≡ y → low ≤ℤ high → high ≤ℤ pos 2147483647 → (low +ℤ pos (count_of y) -ℤ pos 1) ≤ℤ pos 2147483647
last_is low high (pos n) e le near = omega (arith, ints, e, near)
last_is low high (negsuc n) e le near = absurd (omega (arith, ints, e, le))

between_ended : (e : Ends) (x : Extent) → extent_between e ≡ Some x → IsEnded x
between_ended e x h = of (are_within e) refl h
  where
    made : Extent
    made = record { low = e.low; count = count_of (e.high -ℤ e.low +ℤ pos 1) }

    of : (b : Bool) → are_within e ≡ b → (if b then Some made else None) ≡ Some x → IsEnded x
    of true w q =
        let parts = both_true (is_i32 e.low && is_i32 e.high) (int_le e.low e.high && int_le (e.high -ℤ e.low) (pos 2147483647)) w in
        let ends = both_true (is_i32 e.low) (is_i32 e.high) parts.0 in
        let high = both_true (int_le (negsuc 2147483647) e.high) (int_le e.high (pos 2147483647)) ends.1 in
        let order = both_true (int_le e.low e.high) (int_le (e.high -ℤ e.low) (pos 2147483647)) parts.1 in
        subst IsEnded (same made x q) (last_is e.low e.high (e.high -ℤ e.low +ℤ pos 1) refl (at_most e.low e.high order.0) (at_most e.high (pos 2147483647) high.1))
    of false w q = absurd (cc q)

extent_ended : (is_root : Bool) (o : Option Ends) (x : Extent) → extent_of is_root o ≡ Some x → IsEnded x
extent_ended is_root o x h =
    let step : Extent → Option Extent = λ y. if may_have is_root y.count then Some y else None in
    let b = bound (o >>= extent_between) step x h in
    let c = bound o extent_between b.value b.is in
    of b.value (may_have is_root b.value.count) b.comes (between_ended c.value b.value c.comes)
  where
    of : (y : Extent) (t : Bool) → (if t then Some y else None) ≡ Some x → IsEnded y → IsEnded x
    of y true q ended = subst IsEnded (same y x q) ended
    of y false q ended = absurd (cc q)

region_ended : (is_root : Bool) (reach : List (Option Ends)) (es : List Extent) → region_of is_root reach ≡ Some es → AllByRecursion IsEnded es
region_ended is_root [] es h = subst (AllByRecursion IsEnded) (same [] es h) tt
region_ended is_root (o ∷ os) es h =
    let b = bound (extent_of is_root o) (λ x. region_of is_root os >>= λ xs. Some (x ∷ xs)) es h in
    let c = bound (region_of is_root os) (λ xs. Some (b.value ∷ xs)) es b.comes in
    subst (AllByRecursion IsEnded) (same (b.value ∷ c.value) es c.comes) (extent_ended is_root o b.value b.is, region_ended is_root os c.value c.is)

laid_ended : (a : Algorithm) (g : StoredText) (later : List StoredText) (found : List (Option LaidText)) (l : LaidText) → laid_within a g later found ≡ Some l → AllByRecursion IsEnded l.region
laid_ended a g later found l h = of g.formulas h
  where
    of : (o : Option (List FormulaText)) → laid_by a g o later found ≡ Some l → AllByRecursion IsEnded l.region
    of None q = absurd (cc q)
    of (Some fs) q =
        let b = bound (reach_of a g later found) (laid_over a g fs) l q in
        let f = laid_found a g fs b.value l b.comes in
        region_ended g.subject.is_root f.wide l.region f.is

pub region_ends : (a : Algorithm) (gs : List StoredText) (n : ℕ) (g : StoredText) (l : LaidText) → slice_get gs n ≡ Some g → slice_get (laid_functions a gs) n ≡ Some (Some l) →
    AllByRecursion IsEnded l.region
region_ends a [] n g l at laid = absurd (cc at)
region_ends a (s ∷ later) zero g l at laid = laid_ended a s later (laid_functions a later) l (same (laid_within a s later (laid_functions a later)) (Some l) laid)
region_ends a (s ∷ later) (suc n) g l at laid = region_ends a later n g l at laid

-- ---- no rule is broken

none_first : (g : StoredText) (o : Option RegionRule) (later : Option (RegionRule × List ℕ)) → or_later g o later ≡ None → o ≡ None
none_first g None later q = refl
none_first g (Some r) later q = absurd (cc q)

none_later : (g : StoredText) (o : Option RegionRule) (later : Option (RegionRule × List ℕ)) → or_later g o later ≡ None → later ≡ None
none_later g None later q = q
none_later g (Some r) later q = absurd (cc q)

within_bounded : (a : Algorithm) (g : StoredText) (fs : List FormulaText) (t : Totals) (l : LaidText) → fault_within a g fs t l ≡ None → is_root_bounded a g fs l ≡ Some true
within_bounded a g fs t l h = of (is_shifted_little g l) (pass_limits t) (is_root_bounded a g fs l) h
  where
    told : (o : Option Bool) → unless_bounded o ≡ None → o ≡ Some true
    told (Some true) q = refl
    told (Some false) q = absurd (cc q)
    told None q = absurd (cc q)

    of : (b c : Bool) (o : Option Bool) → (if b then Some ShortShift else (if c then Some TooMuch else unless_bounded o)) ≡ None → o ≡ Some true
    of true c o q = absurd (cc q)
    of false true o q = absurd (cc q)
    of false false o q = told o q

pub root_bounded : (a : Algorithm) (left : List Written) (t : Totals) (gs : List StoredText) (ls : List (Option LaidText)) → fault_from a left t gs ls ≡ None →
    (n : ℕ) (g : StoredText) (fs : List FormulaText) (l : LaidText) → slice_get gs n ≡ Some g → g.formulas ≡ Some fs → slice_get ls n ≡ Some (Some l) → is_root_bounded a g fs l ≡ Some true
root_bounded a left t [] ls h n g fs l at is laid = absurd (cc at)
root_bounded a left t (g ∷ gs) [] h n u fs l at is laid = absurd (cc laid)
root_bounded a left t (g ∷ gs) (m ∷ ls) h zero u fs l at is laid =
    let same_text : g ≡ u = same g u at in
    let first : m ≡ Some l = same m (Some l) laid in
    let none = none_first g (fault_of a left t g m) (fault_from a left (totals_with t g m) gs ls) h in
    let here : fault_by a left t u (Some fs) (Some l) ≡ None =
    sym (λ i. fault_by a left t (same_text i) (((ap (λ (v : StoredText). v.formulas) same_text) ∙ is) i) (first i)) ∙ none in
    within_bounded a u fs (with_laid t l) l here
root_bounded a left t (g ∷ gs) (m ∷ ls) h (suc n) u fs l at is laid =
    root_bounded a left (totals_with t g m) gs ls (none_later g (fault_of a left t g m) (fault_from a left (totals_with t g m) gs ls) h) n u fs l at is laid

-- ---- the first definition

pub calls_bounded : (a : Algorithm) (r : AroundText) (f : FormulaText) (region : List Span1) (x : List ℕ) (cs : List Written) → are_bounded a r f region x cs ≡ Some true →
    AllByRecursion (λ c. is_call_bounded a r f region x c ≡ Some true) cs
calls_bounded a r f region x [] h = tt
calls_bounded a r f region x (c ∷ cs) h =
    let b = bound (is_call_bounded a r f region x c) (λ is. if is then are_bounded a r f region x cs else Some false) true h in
    of b.value b.is b.comes (calls_bounded a r f region x cs)
  where
    of : (v : Bool) → is_call_bounded a r f region x c ≡ Some v → (if v then are_bounded a r f region x cs else Some false) ≡ Some true →
        (are_bounded a r f region x cs ≡ Some true → AllByRecursion (λ c. is_call_bounded a r f region x c ≡ Some true) cs) →
        (is_call_bounded a r f region x c ≡ Some true) × AllByRecursion (λ c. is_call_bounded a r f region x c ≡ Some true) cs
    of true e q rest = (e, rest q)
    of false e q rest = absurd (cc q)

-- a call of the input
pub input_bounded : (a : Algorithm) (r : AroundText) (f : FormulaText) (region : List Span1) (x : List ℕ) (c : Written) → same_name c.name a.input ≡ true →
    is_call_bounded a r f region x c ≡ Some true → is_on_input a r c.at a.input_extents ≡ Some true
input_bounded a r f region x c named h =
    sym (ap (λ (b : Bool). if b then is_on_input a r c.at a.input_extents else (if same_name c.name x then is_in_region a r f 0 c.at region else Some true)) named) ∙ h
