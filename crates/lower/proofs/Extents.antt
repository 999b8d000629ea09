-- Where no rule is broken by a region each stored function has one, with as many dimensions as it has variables, and some numbers of 32 bits in each.
use Rattle.std.proofs.Common.{◌≡◌, ℕ, zero, suc, ◌<◌, Bool, true, false, ◌&&◌, List, [], ◌∷◌, length, Option, Some, None, refl, sym, ap, ◌∙◌, subst, arith}
use Rattle.std.specs.Prelude.{ℤ, pos, negsuc, ◌+ℤ◌, ◌-ℤ◌, ◌≤ℤ◌, int_le, if◌then◌else◌, slice_get}
use Rattle.std.specs.List.{AllByRecursion}
use Rattle.std.proofs.lemmas.Int.{ints}
use Rattle.std.proofs.lemmas.List.{length-replicate}
use Rattle.meaning.specs.Algorithm.{Algorithm}
use Rattle.std.proofs.lemmas.Bool.{false≢true}
use Rattle.sched.specs.declared.numbers.Extent.{Extent}
use Rattle.sched.specs.Standing.{◌>>=◌}
use Rattle.regions.specs.declared.regions.Ends.{Ends}
use Rattle.regions.specs.Lacking.{stored_calls}
use Rattle.sched.specs.Stored.{FormulaText, StoredText}
use Rattle.regions.specs.Stored.{is_large}
use Rattle.lower.specs.Stored.{has_large}
use Rattle.sched.specs.Regions.{LaidText, count_of}
use Rattle.regions.specs.Regions.{is_i32, are_within, extent_between, may_have, extent_of, region_of, add_output, add_users, unreached, reach_of, laid_over, laid_by, laid_within}
use Rattle.regions.specs.Regions.{laid_functions}
use Rattle.blocks.specs.declared.legality.Totals.{Totals}
use Rattle.sched.specs.declared.region_rule.RegionRule.{RegionRule}
use Rattle.sched.specs.declared.region_rule.RegionRule.TheVariants.{Unbounded}
use Rattle.algo.specs.Scoping.Standing.{Written}
use Rattle.lower.specs.Faults.{no_totals, fault_of, fault_by, or_later, fault_from, calls_of_large, region_fault}
use Rattle.blocks.specs.Faults.{totals_with, unless_left, first_laid, other_laid}
use Rattle.lower.specs.Owning.{IsExtent}
use Rattle.regions.proofs.Gathering.{none_gathered}
use Rattle.lower.proofs.Laying.{IsLaidOver, laid_over_it}
use Rattle.blocks.proofs.Laying.{bound, same}
use Rattle.lower.proofs.Reached.{Grows, if_some, grows_users, grows_output, laid_found, region_length}

and_parts : (a b : Bool) → (a && b) ≡ true → (a ≡ true) × (b ≡ true)
and_parts true b h = (refl, h)
and_parts false b h = absurd (false≢true h)

at_most : (y z : ℤ) → int_le y z ≡ true → y ≤ℤ z
at_most y z h = grind (arith, ints)

no_extent : (e : Extent) → None ≡ Some e → ⊥
no_extent e h = cc

-- from one end to another there are this many numbers
count_some : (low high y : ℤ) → high -ℤ low +ℤ pos 1 ≡ y → low ≤ℤ high → (high -ℤ low) ≤ℤ pos 2147483647 → (0 < count_of y) × (count_of y < 4294967296)
count_some low high (pos n) e le few = (omega (arith, ints, e, le), omega (arith, ints, e, few))
count_some low high (negsuc n) e le few = absurd (omega (arith, ints, e, le))

between_some : (e : Ends) (x : Extent) → extent_between e ≡ Some x → IsExtent x
between_some e x h = of (are_within e) refl h
  where
    made : Extent
    made = record { low = e.low; count = count_of (e.high -ℤ e.low +ℤ pos 1) }

    of : (b : Bool) → are_within e ≡ b → (if b then Some made else None) ≡ Some x → IsExtent x
    of true w q =
        let parts = and_parts (is_i32 e.low && is_i32 e.high) (int_le e.low e.high && int_le (e.high -ℤ e.low) (pos 2147483647)) w in
        let ends = and_parts (is_i32 e.low) (is_i32 e.high) parts.0 in
        let low = and_parts (int_le (negsuc 2147483647) e.low) (int_le e.low (pos 2147483647)) ends.0 in
        let rest = and_parts (int_le e.low e.high) (int_le (e.high -ℤ e.low) (pos 2147483647)) parts.1 in
        let many = count_some e.low e.high (e.high -ℤ e.low +ℤ pos 1) refl (at_most e.low e.high rest.0) (at_most (e.high -ℤ e.low) (pos 2147483647) rest.1) in
        subst IsExtent (same made x q) (record { some = many.0; few = many.1; from = at_most (negsuc 2147483647) e.low low.0; to = at_most e.low (pos 2147483647) low.1 })
    of false w q = absurd (no_extent x q)

extent_some : (is_root : Bool) (o : Option Ends) (x : Extent) → extent_of is_root o ≡ Some x → IsExtent x
extent_some is_root o x h =
    let step : Extent → Option Extent = λ y. if may_have is_root y.count then Some y else None in
    let b = bound (o >>= extent_between) step x h in
    let c = bound o extent_between b.value b.is in
    of b.value (may_have is_root b.value.count) b.comes (between_some c.value b.value c.comes)
  where
    of : (y : Extent) (t : Bool) → (if t then Some y else None) ≡ Some x → IsExtent y → IsExtent x
    of y true q lies = subst IsExtent (same y x q) lies
    of y false q lies = absurd (no_extent x q)

region_some : (is_root : Bool) (reach : List (Option Ends)) (es : List Extent) → region_of is_root reach ≡ Some es → AllByRecursion IsExtent es
region_some is_root [] es h = subst (AllByRecursion IsExtent) (same [] es h) tt
region_some is_root (o ∷ os) es h =
    let b = bound (extent_of is_root o) (λ x. region_of is_root os >>= λ xs. Some (x ∷ xs)) es h in
    let c = bound (region_of is_root os) (λ xs. Some (b.value ∷ xs)) es b.comes in
    subst (AllByRecursion IsExtent) (same (b.value ∷ c.value) es c.comes) (extent_some is_root o b.value b.is, region_some is_root os c.value c.is)

pub record IsRegionOf (g : StoredText) (l : LaidText) : Type 0 where
  pub long : length l.region ≡ length g.subject.variables
  pub extents : AllByRecursion IsExtent l.region

within_is : (a : Algorithm) (g : StoredText) (later : List StoredText) (found : List (Option LaidText)) (l : LaidText) → laid_within a g later found ≡ Some l → IsRegionOf g l
within_is a g later found l h = of g.formulas h
  where
    of : (o : Option (List FormulaText)) → laid_by a g o later found ≡ Some l → IsRegionOf g l
    of None q = absurd (no q)
      where
        no : None ≡ Some l → ⊥
        no i = cc
    of (Some fs) q =
        let blank = unreached (length g.subject.variables) in
        let b = bound (reach_of a g later found) (laid_over a g fs) l q in
        let w = bound (add_users a g.subject.name later found blank) (λ reach. Some (add_output a g.subject.is_output reach)) b.value b.is in
        let f = laid_found a g fs b.value l b.comes in
        let grown : Grows w.value b.value = if_some w.value _ b.value (grows_output a g.subject.is_output w.value) w.comes in
        let begun = grows_users a g.subject.name later found blank w.value w.is in
        let size : length blank ≡ length l.region = begun.as_many ∙ grown.as_many ∙ f.grown.as_many ∙ sym (region_length g.subject.is_root f.wide l.region f.is) in
        record { long = sym size ∙ length-replicate (length g.subject.variables) None; extents = region_some g.subject.is_root f.wide l.region f.is }

pub region_is : (a : Algorithm) (gs : List StoredText) (n : ℕ) (g : StoredText) (l : LaidText) → slice_get gs n ≡ Some g → slice_get (laid_functions a gs) n ≡ Some (Some l) → IsRegionOf g l
region_is a [] n g l at laid = absurd (cc at)
region_is a (s ∷ later) zero g l at laid =
    subst (λ (q : StoredText). IsRegionOf q l) (same s g at) (within_is a s later (laid_functions a later) l (same (laid_within a s later (laid_functions a later)) (Some l) laid))
region_is a (s ∷ later) (suc n) g l at laid = region_is a later n g l at laid

-- ---- regions that are found

faults_leave : (a : Algorithm) (left : List Written) (t : Totals) (gs : List StoredText) (ls : List (Option LaidText)) → left ≡ [] → fault_from a left t gs ls ≡ None →
    (n : ℕ) (g : StoredText) (fs : List FormulaText) → slice_get gs n ≡ Some g → g.formulas ≡ Some fs → (l : LaidText) × (slice_get ls n ≡ Some (Some l))
faults_leave a left t [] ls small h n g fs at is = absurd (cc at)
faults_leave a left t (g ∷ gs) ls small h zero u fs at is =
    let same : g ≡ u = cc at in
    here (first_laid ls) ls refl (ap (λ (o : Option (List FormulaText)). fault_by a left t g o (first_laid ls)) (sym (ap (λ (v : StoredText). v.formulas) same ∙ is)) ∙ none_first
    (fault_of a left t g (first_laid ls)) h)
  where
    none_first : (o : Option RegionRule) → or_later g o (fault_from a left (totals_with t g (first_laid ls)) gs (other_laid ls)) ≡ None → o ≡ None
    none_first None q = refl
    none_first (Some r) q = absurd (cc q)

    here : (o : Option LaidText) (ls : List (Option LaidText)) → first_laid ls ≡ o → fault_by a left t g (Some fs) o ≡ None → (l : LaidText) × (slice_get ls 0 ≡ Some (Some l))
    here None ls e q = absurd (none_there (ap (unless_left g) (sym small) ∙ q))
      where
        none_there : Some Unbounded ≡ None → ⊥
        none_there k = cc
    here (Some l) [] e q = absurd (cc e)
    here (Some l) (m ∷ ls) e q = (l, ap (λ (o : Option LaidText). Some o) e)
faults_leave a left t (g ∷ gs) ls small h (suc n) u fs at is =
    let rest = faults_leave a left (totals_with t g (first_laid ls)) gs (other_laid ls) small (none_later (fault_of a left t g (first_laid ls)) h) n u fs at is in
    (rest.0, behind ls rest.0 rest.1)
  where
    none_later : (o : Option RegionRule) → or_later g o (fault_from a left (totals_with t g (first_laid ls)) gs (other_laid ls)) ≡ None →
        fault_from a left (totals_with t g (first_laid ls)) gs (other_laid ls) ≡ None
    none_later None q = q
    none_later (Some r) q = absurd (cc q)

    behind : (ls : List (Option LaidText)) (l : LaidText) → slice_get (other_laid ls) n ≡ Some (Some l) → slice_get ls (suc n) ≡ Some (Some l)
    behind [] l e = absurd (cc e)
    behind (m ∷ ls) l e = e

pub regions_there : (a : Algorithm) (gs : List StoredText) → has_large gs ≡ false → region_fault a gs ≡ None → (n : ℕ) (g : StoredText) (fs : List FormulaText) → slice_get gs n ≡ Some g →
    g.formulas ≡ Some fs → (l : LaidText) × (slice_get (laid_functions a gs) n ≡ Some (Some l))
regions_there a gs small kept = faults_leave a (calls_of_large a gs) no_totals gs (laid_functions a gs) (none_gathered (λ g. g.subject.name) (stored_calls a) is_large gs small) kept

pub skeleton_is : (a : Algorithm) (gs : List StoredText) (n : ℕ) (g : StoredText) (l : LaidText) (fs : List FormulaText) → slice_get gs n ≡ Some g
    → slice_get (laid_functions a gs) n ≡ Some (Some l) → g.formulas ≡ Some fs → IsLaidOver g fs l
skeleton_is a [] n g l fs at laid is = absurd (cc at)
skeleton_is a (s ∷ later) zero g l fs at laid is =
    let found = laid_functions a later in
    let here : s ≡ g = same s g at in
    subst (λ (q : StoredText). IsLaidOver q fs l) here
    (laid_over_it a s later found fs l (ap (λ (q : StoredText). q.formulas) here ∙ is) (same (laid_within a s later found) (Some l) laid))
skeleton_is a (s ∷ later) (suc n) g l fs at laid is = skeleton_is a later n g l fs at laid is
