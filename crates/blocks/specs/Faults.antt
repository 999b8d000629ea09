-- The first function that breaks a rule by what its loops run over, where each stored function is a root function.
use Rattle.std.specs.Prelude.{ℕ, ◌+◌, ◌*◌, ◌^◌, ◌-◌, min, nat_lt, Bool, true, false, ◌||◌, if◌then◌else◌, List, [], ◌∷◌, Option, Some, None}
use Rattle.meaning.specs.Algorithm.{Algorithm}
use Rattle.algo.specs.Scoping.Standing.{Written}
use Rattle.sched.specs.declared.numbers.Extent.{Extent}
use Rattle.sched.specs.Numbers.{loop_numbers, has_short_shift}
use Rattle.sched.specs.declared.region_rule.RegionRule.{RegionRule}
use Rattle.sched.specs.declared.region_rule.RegionRule.TheVariants.{ShortShift, TooMuch, Unbounded}
use Rattle.blocks.specs.declared.legality.Totals.{Totals}
use Rattle.sched.specs.Stored.{FormulaText, StoredText, are_calls_of}
use Rattle.sched.specs.Regions.{LaidText}
use Rattle.blocks.specs.Bounded.{is_root_bounded}

-- ---- cells and pieces, as 64 bits count them

abbrev pub counted : ℕ → ℕ
counted n = min n (2 ^ 64 - 1)

abbrev pub product : List ℕ → ℕ
product [] = 1
product (n ∷ ns) = counted (product ns * n)

abbrev pub cells_of : List Extent → ℕ
cells_of [] = 1
cells_of (e ∷ es) = counted (cells_of es * e.count)

abbrev pub with_laid : Totals → LaidText → Totals
with_laid t l = record { cells = counted (t.cells + cells_of l.region); pieces = counted (t.pieces + product l.skeleton.grid) }

abbrev pub pass_limits : Totals → Bool
pass_limits t = nat_lt (2 ^ 24) t.cells || nat_lt (2 ^ 20) t.pieces

-- ---- rules

-- a loop that is split with `shift` has fewer numbers than a block
abbrev pub is_shifted_little : StoredText → LaidText → Bool
is_shifted_little g l = has_short_shift (loop_numbers g.subject.variables g.placed.cuts l.region) g.placed.cuts

-- L12 where an index is not shown to lie where it may, or has no bound
abbrev pub unless_bounded : Option Bool → Option RegionRule
unless_bounded (Some true) = None
unless_bounded (Some false) = Some Unbounded
unless_bounded None = Some Unbounded

-- the lowest rule that a function of this region breaks, where the root functions have so much together: L8, L11, L12
abbrev pub fault_within : Algorithm → StoredText → List FormulaText → Totals → LaidText → Option RegionRule
fault_within a g fs t l =
    if is_shifted_little g l then Some ShortShift else (if pass_limits t then Some TooMuch else unless_bounded (is_root_bounded a g fs l))

-- without a region L12, but where one of these calls leaves it without one
abbrev pub unless_left : StoredText → List Written → Option RegionRule
unless_left g left = if are_calls_of g.subject.name left then None else Some Unbounded

abbrev pub totals_by : Totals → Option (List FormulaText) → Option LaidText → Totals
totals_by t None l = t
totals_by t (Some fs) None = t
totals_by t (Some fs) (Some l) = with_laid t l

abbrev pub totals_with : Totals → StoredText → Option LaidText → Totals
totals_with t g l = totals_by t g.formulas l

-- the region of the next function, and those of the others
abbrev pub first_laid : List (Option LaidText) → Option LaidText
first_laid [] = None
first_laid (l ∷ ls) = l

abbrev pub other_laid : List (Option LaidText) → List (Option LaidText)
other_laid [] = []
other_laid (l ∷ ls) = ls
