-- Splits with `shift`: their loops have the numbers of a block, and functions with updates have none.
use Rattle.std.proofs.Common.{◌≡◌, ℕ, zero, suc, ◌≤◌, Bool, true, false, List, [], ◌∷◌, length, Option, Some, None, refl, sym, ap, ◌∙◌, subst, arith}
use Rattle.std.specs.Prelude.{if◌then◌else◌, slice_get, Any}
use Rattle.std.specs.List.{AllByRecursion}
use Rattle.meaning.specs.Algorithm.{Change, Algorithm}
use Rattle.sched.specs.declared.schedule.Split.{Split}
use Rattle.sched.specs.declared.schedule.Tail.{Tail}
use Rattle.sched.specs.declared.schedule.Tail.TheVariants.{Guard, Roundup, Shift}
use Rattle.sched.specs.declared.error.Rule.TheVariants as rule
use Rattle.sched.specs.declared.numbers.Numbers.{Numbers}
use Rattle.sched.specs.declared.region_rule.RegionRule.{RegionRule}
use Rattle.sched.specs.declared.region_rule.RegionRule.TheVariants.{ShortShift, TooMuch}
use Rattle.sched.specs.Schedule.{Schedule}
use Rattle.sched.specs.Legal.{IsLegal, said, loops_after}
use Rattle.sched.specs.Numbers.{loop_numbers, is_too_short, has_short_shift}
use Rattle.sched.specs.Placing.{is_shifted}
use Rattle.algo.specs.Scoping.Standing.{Written}
use Rattle.sched.specs.Stored.{FormulaText, StoredText}
use Rattle.blocks.specs.Stored.{flags}
use Rattle.lower.specs.Stored.{stored_functions}
use Rattle.sched.specs.Regions.{LaidText}
use Rattle.regions.specs.Regions.{laid_functions}
use Rattle.blocks.specs.Bounded.{is_root_bounded}
use Rattle.lower.specs.Faults.{no_totals, fault_by, fault_of, or_later, fault_from, calls_of_large, region_fault}
use Rattle.blocks.specs.Faults.{with_laid, pass_limits, is_shifted_little, unless_bounded, totals_with}
use Rattle.blocks.proofs.Laying.{same}
use Rattle.completeness.proofs.Standing.{Taken}
use Rattle.completeness.proofs.LoopMoves.{or_none}
use Rattle.completeness.proofs.Laid.{subjects, found}

-- ---- blocks are no longer than the loop

abbrev Totals : Type 0
Totals = Taken _ _ pass_limits

none_first : (g : StoredText) (o : Option RegionRule) (later : Option (RegionRule × List ℕ)) → or_later g o later ≡ None → o ≡ None
none_first g None later q = refl
none_first g (Some r) later q = absurd (cc q)

none_later : (g : StoredText) (o : Option RegionRule) (later : Option (RegionRule × List ℕ)) → or_later g o later ≡ None → later ≡ None
none_later g None later q = q
none_later g (Some r) later q = absurd (cc q)

long_within : (a : Algorithm) (g : StoredText) (o : Option (List FormulaText)) (left : List Written) (t : Totals) (l : LaidText) → fault_by a left t g o (Some l) ≡ None → is_shifted_little g l ≡ false
long_within a g None left t l h = absurd (cc h)
long_within a g (Some fs) large t l h = of (is_shifted_little g l) (pass_limits (with_laid t l)) (unless_bounded (is_root_bounded a g fs l)) h
  where
    of : (b c : Bool) (o : Option RegionRule) → (if b then Some ShortShift else (if c then Some TooMuch else o)) ≡ None → b ≡ false
    of true c o q = absurd (cc q)
    of false c o q = refl

long_at : (a : Algorithm) (left : List Written) (t : Totals) (gs : List StoredText) (ls : List (Option LaidText)) → fault_from a left t gs ls ≡ None → (n : ℕ) (g : StoredText) (l : LaidText) →
    slice_get gs n ≡ Some g → slice_get ls n ≡ Some (Some l) → is_shifted_little g l ≡ false
long_at a left t [] ls h n g l at laid = absurd (cc at)
long_at a left t (g ∷ gs) [] h n u l at laid = absurd (cc laid)
long_at a left t (g ∷ gs) (m ∷ ls) h zero u l at laid =
    let same_text : g ≡ u = same g u at in
    let first : m ≡ Some l = same m (Some l) laid in
    let none = none_first g (fault_of a left t g m) (fault_from a left (totals_with t g m) gs ls) h in
    long_within a u u.formulas left t l (sym (λ i. fault_by a left t (same_text i) (StoredText.formulas (same_text i)) (first i)) ∙ none)
long_at a left t (g ∷ gs) (m ∷ ls) h (suc n) u l at laid =
    long_at a left (totals_with t g m) gs ls (none_later g (fault_of a left t g m) (fault_from a left (totals_with t g m) gs ls) h) n u l at laid

none_short : (ns : List Numbers) (cs : List Split) → has_short_shift ns cs ≡ false → AllByRecursion (λ c. is_too_short ns c ≡ false) cs
none_short ns [] e = tt
none_short ns (c ∷ cs) e = (let k = or_none (is_too_short ns c) (has_short_shift ns cs) e in (k.0, none_short ns cs k.1))

pub long_shifts : (a : Algorithm) (sch : Schedule) → region_fault a (stored_functions a sch) ≡ None → (n : ℕ) (g : StoredText) (l : LaidText) → slice_get (stored_functions a sch) n ≡ Some g →
    slice_get (laid_functions a (stored_functions a sch)) n ≡ Some (Some l) →
    AllByRecursion (λ c. is_too_short (loop_numbers g.subject.variables g.placed.cuts l.region) c ≡ false) g.placed.cuts
long_shifts a sch kept n g l at laid =
    none_short (loop_numbers g.subject.variables g.placed.cuts l.region) g.placed.cuts
    (long_at a (calls_of_large a (stored_functions a sch)) no_totals (stored_functions a sch) (laid_functions a (stored_functions a sch)) kept n g l at laid)

-- ---- functions with updates

unshifted : (cs : List Split) → ¬ Any (λ c. c.tail ≡ Shift) cs → AllByRecursion (λ c. is_shifted c ≡ false) cs
unshifted [] h = tt
unshifted (c ∷ cs) h = (of c.tail refl, unshifted cs (λ (k, d, less, is, v). h (suc k, d, omega (arith, less), is, v)))
  where
    of : (t : Tail) → c.tail ≡ t → ◌≡◌ {A = Bool} (elim t [ Shift ↦ true | Guard ↦ false | Roundup ↦ false ]) false
    of Shift e = absurd (h (0, c, omega arith, refl, e))
    of Guard e = refl
    of Roundup e = refl

pub updates_unshifted : (a : Algorithm) (sch : Schedule) → IsLegal a sch → (n : ℕ) (g : StoredText) → slice_get (stored_functions a sch) n ≡ Some g → 1 ≤ length g.changes →
    AllByRecursion (λ c. is_shifted c ≡ false) g.placed.cuts
updates_unshifted a sch legal n g at some =
    let w = found a sch (flags (subjects a sch)) g a.functions n at in
    let many : 1 ≤ length w.function.changes = subst (λ (cs : List Change). 1 ≤ length cs) (ap (λ (u : StoredText). u.changes) w.is) some in
    subst (λ (u : StoredText). AllByRecursion (λ c. is_shifted c ≡ false) u.placed.cuts) (sym w.is)
    (unshifted (loops_after (said sch) w.function).cuts (λ q. legal.whole w.place w.function rule.BadShift w.at (many, q)))
