-- The first function that breaks a rule by what its loops run over, where each stored function is a root function.
-- What crates below need of it stands there: `regions`, `blocks`.
use Rattle.std.specs.Prelude.{◌≡◌, ℕ, true, List, [], ◌∷◌, take, Option, Some, None}
use Rattle.meaning.specs.Algorithm.{Algorithm}
use Rattle.algo.specs.Scoping.Standing.{Written}
use Rattle.sched.specs.declared.region_rule.RegionRule.{RegionRule}
use Rattle.sched.specs.declared.region_rule.RegionRule.TheVariants.{TooLarge}
use Rattle.blocks.specs.declared.legality.Totals.{Totals}
use Rattle.sched.specs.Stored.{FormulaText, StoredText}
use Rattle.regions.specs.Stored.{is_large}
use Rattle.regions.specs.Lacking.{lacking}
use Rattle.sched.specs.Regions.{LaidText}
use Rattle.regions.specs.Regions.{laid_functions}
use Rattle.regions.specs.Faults.{are_whole}
use Rattle.blocks.specs.Faults.{with_laid, fault_within, unless_left, totals_with, first_laid, other_laid}

abbrev pub no_totals : Totals
no_totals = record { cells = 0; pieces = 0 }

abbrev pub fault_by_region : Algorithm → List Written → Totals → StoredText → List FormulaText → Option LaidText → Option RegionRule
fault_by_region a left t g fs None = unless_left g left
fault_by_region a left t g fs (Some l) = fault_within a g fs (with_laid t l) l

-- without definitions L11
abbrev pub fault_by : Algorithm → List Written → Totals → StoredText → Option (List FormulaText) → Option LaidText → Option RegionRule
fault_by a left t g None l = Some TooLarge
fault_by a left t g (Some fs) l = fault_by_region a left t g fs l

abbrev pub fault_of : Algorithm → List Written → Totals → StoredText → Option LaidText → Option RegionRule
fault_of a left t g l = fault_by a left t g g.formulas l

abbrev pub or_later : StoredText → Option RegionRule → Option (RegionRule × List ℕ) → Option (RegionRule × List ℕ)
or_later g (Some r) later = Some (r, g.subject.name)
or_later g None later = later

-- the first in the order of declaration that breaks one, and the rule
abbrev pub fault_from : Algorithm → List Written → Totals → List StoredText → List (Option LaidText) → Option (RegionRule × List ℕ)
fault_from a left t [] ls = None
fault_from a left t (g ∷ gs) ls =
    or_later g (fault_of a left t g (first_laid ls)) (fault_from a left (totals_with t g (first_laid ls)) gs (other_laid ls))

-- what functions that are too large call, and what that calls
abbrev pub calls_of_large : Algorithm → List StoredText → List Written
calls_of_large a gs = lacking a is_large gs

-- over the regions that are needed of them; of what is called by one that is too large no region is missed
abbrev pub region_fault : Algorithm → List StoredText → Option (RegionRule × List ℕ)
region_fault a gs = fault_from a (calls_of_large a gs) no_totals gs (laid_functions a gs)

-- ---- as far as it is asked

-- of whole functions this is what the first of so many breaks, behind others that have these totals
abbrev pub IsFirstOf : Algorithm → List Written → Totals → ℕ → List StoredText → List (Option LaidText) → Option (RegionRule × List ℕ) → Type 0
IsFirstOf a left t n gs ls o = are_whole gs ≡ true → o ≡ fault_from a left t (take n gs) ls
