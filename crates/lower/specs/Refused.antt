-- Why an algorithm and a schedule give no plan.
-- What crates below need of it stands there: `sched`.
use Rattle.std.specs.Prelude.{◌≡◌, ◌⊎◌, ℕ, true, false, List, length, map, Option, Some, None, Result, Ok, Err}
use Rattle.meaning.specs.Algorithm.{Algorithm}
use Rattle.sched.specs.Schedule.{Schedule}
use Rattle.sched.specs.declared.error.Rule.{Rule}
use Rattle.sched.specs.declared.error.SchedError.{SchedError}
use Rattle.sched.specs.declared.error.SchedError.TheVariants as refusal
use Rattle.sched.specs.Legal.{IsFollowed}
use Rattle.sched.specs.Placing.{SubjectText}
use Rattle.sched.specs.Subjects.{subject_said}
use Rattle.lower.specs.declared.lowering.Lowered.{Lowered}
use Rattle.sched.specs.declared.region_rule.RegionRule.{RegionRule}
use Rattle.sched.specs.declared.region_rule.RegionRule.TheVariants as rule
use Rattle.sched.specs.Stored.{StoredText}
use Rattle.lower.specs.Stored.{has_large, stored_functions}
use Rattle.lower.specs.Large.{IsToldOf}
use Rattle.regions.specs.Faults.{are_whole}
use Rattle.lower.specs.Faults.{region_fault}
use Rattle.lower.specs.Planned.{unplanned, unplanned_over}
use Rattle.lower.specs.Uses.{AreUsedInside}
use Rattle.lower.specs.Groups.{HasGroupsFrom, AreAllFoundIf, Come, placed_in, rooted, rounds}
use Rattle.lower.specs.Homes.{AreAllAtHome}
use Rattle.lower.specs.Broken.{Inside, first_told}
use Rattle.sched.specs.Regions.{LaidText}
use Rattle.regions.specs.Regions.{laid_functions}
use Rattle.sched.specs.Legal as sched
use Rattle.lower.specs.declared.error.LowerError.{LowerError}
use Rattle.lower.specs.declared.error.LowerError.TheVariants as error

-- no definition of a stored function, with the calls of the others put in, passes 4096 nodes or 256 levels
abbrev pub AreSmall : Algorithm → Schedule → Type 0
AreSmall a s = has_large (stored_functions a s) ≡ false

-- where each stored function is a root function that is computed at no loop, none breaks a rule by its region, and the lines of each group can be written
abbrev pub KeepsRegions : Algorithm → List StoredText → Type 0
KeepsRegions a gs = are_whole gs ≡ true → (region_fault a gs ≡ None) × (unplanned a gs ≡ None)

-- then this is the first function that breaks one, and the rule; of missing bounds it may be told too where none breaks one: of the first function whose
-- group's lines can't be written
abbrev pub IsFirst : Algorithm → List StoredText → RegionRule → List ℕ → Type 0
IsFirst a gs r x = are_whole gs ≡ true → (region_fault a gs ≡ Some (r, x)) ⊎ ((r ≡ rule.Unbounded) × (region_fault a gs ≡ None) × (unplanned a gs ≡ Some x))

-- over these regions, where these are computed inside, it is what is told, function by function; or none breaks a rule, and L12 is told of the first whose group's lines can't be
-- written
abbrev pub IsFirstOver : Algorithm → List SubjectText → List StoredText → Option (Rule × List ℕ) → List (Option LaidText) → List Inside → RegionRule → List ℕ → Type 0
IsFirstOver a us gs o ls inside r x =
    (first_told a us gs o ls inside ≡ Some (r, x))
    ⊎ ((r ≡ rule.Unbounded) × (o ≡ None) × (first_told a us gs o ls inside ≡ None) × (unplanned_over a gs ls inside ≡ Some x))

-- no rule by regions is told before the one that asks for none
abbrev pub IsNoneOver : Algorithm → List SubjectText → List StoredText → Option (Rule × List ℕ) → List (Option LaidText) → List Inside → Type 0
IsNoneOver a us gs o ls inside = first_told a us gs o ls inside ≡ None

-- this is said of the regions to which so many rounds come from these ones, where these functions are computed inside, unless of one a bound is missing
pub record IsAskedFrom (a : Algorithm) (gs : List StoredText) (n : ℕ) (first : List (Option LaidText)) (P : List (Option LaidText) → List Inside → Type 0) : Type 0 where
  pub regions : List (Option LaidText)
  pub inside : List Inside
  pub homes : AreAllAtHome (rooted true gs regions) (rooted false gs regions) (map placed_in inside)
  pub found : AreAllFoundIf a (length (rooted false gs regions)) (rooted true gs regions) (rooted false gs regions) inside
  pub come : Come a gs n first regions inside
  pub over : P regions inside

abbrev pub IsFirstFrom : Algorithm → List SubjectText → List StoredText → ℕ → List (Option LaidText) → Option (Rule × List ℕ) → RegionRule → List ℕ → Type 0
IsFirstFrom a us gs n first o r x = IsAskedFrom a gs n first (λ ls inside. IsFirstOver a us gs o ls inside r x)

abbrev pub IsNoneFrom : Algorithm → List SubjectText → List StoredText → ℕ → List (Option LaidText) → Option (Rule × List ℕ) → Type 0
IsNoneFrom a us gs n first o = IsAskedFrom a gs n first (IsNoneOver a us gs o)

-- all functions of an algorithm, as a schedule has to know them
abbrev pub subjects_of : Algorithm → Schedule → List SubjectText
subjects_of a s = map (subject_said a s) a.functions

-- where this is the first rule that asks for no region and is broken, or none is
pub record IsFirstIn (a : Algorithm) (s : Schedule) (r : RegionRule) (x : List ℕ) : Type 0 where
  pub fault : Option (Rule × List ℕ)
  pub is : sched.IsFault a s fault
  pub first : IsFirstFrom a (subjects_of a s) (stored_functions a s) (rounds (stored_functions a s)) (laid_functions a (stored_functions a s)) fault r x

-- no directive breaks a rule; and it is the first rule of those that ask for no region, of the first function that breaks one, and no rule by regions is told before it
abbrev pub IsBehind : Algorithm → Schedule → SchedError → Type 0
IsBehind a s (refusal.Broken r x) =
    sched.IsBrokenBehind a s r x × IsNoneFrom a (subjects_of a s) (stored_functions a s) (rounds (stored_functions a s)) (laid_functions a (stored_functions a s)) (Some (r, x))
IsBehind a s e = ⊥

abbrev pub AreRegionsKept : Algorithm → Schedule → Type 0
AreRegionsKept a s = KeepsRegions a (stored_functions a s)

-- no stored function is used outside of the loop at which it is computed, or in a definition that lacks it
abbrev pub AreUsesInside : Algorithm → Schedule → Type 0
AreUsesInside a s = AreUsedInside (stored_functions a s)

-- A directive breaks one of L1 to L5, or a function a rule that asks for no region, and none before it, nor it itself, one by its region that comes first. L6 of a
-- use is told only of the first stored function that is used outside of the loop at which it is computed, or in a definition that lacks it, and another rule that
-- asks for a region only where neither its function nor one before it is. L11 for a definition is told only of the first stored function of which one passes the
-- limits. The other rules that ask for a region are told only where no directive breaks one of L1 to L5 and, but for L6, no definition of the function or of one
-- before it passes the limits; and only the first that is broken, of the first function that breaks one: over the regions that all turns ask for, and, of a function
-- that is computed inside loops, over what is needed of it wherever it is computed.
abbrev pub IsRefused : Algorithm → Schedule → LowerError → Type 0
IsRefused a s error.Memory = Unit {0}
IsRefused a s (error.Schedule e) = sched.IsUnfollowed a s e ⊎ IsBehind a s e
IsRefused a s (error.Broken r x) = IsFollowed a s × IsToldOf (stored_functions a s) r x × IsFirst a (stored_functions a s) r x × IsFirstIn a s r x

-- it is the first rule that asks for no region and is broken
abbrev pub IsThat : Option (Rule × List ℕ) → SchedError → Type 0
IsThat o (refusal.Broken r x) = o ≡ Some (r, x)
IsThat o e = ⊥

-- a plan comes only where no such rule is broken, no definition passes the limits, no rule is broken by a region, and no function is used outside of
-- its loop; of it this is said, that of a rule that asks for a region, and this where one is told that asks for none
abbrev pub AnswersBy : Algorithm → List StoredText → (Lowered → Type 0) → (RegionRule → List ℕ → Type 0) → Type 0 → Option (Rule × List ℕ) → Result Lowered LowerError → Type 0
AnswersBy a gs P Q N o (Ok l) = (o ≡ None) × (has_large gs ≡ false) × KeepsRegions a gs × P l × AreUsedInside gs
AnswersBy a gs P Q N o (Err error.Memory) = Unit {0}
AnswersBy a gs P Q N o (Err (error.Schedule e)) = IsThat o e × N
AnswersBy a gs P Q N o (Err (error.Broken r x)) = IsToldOf gs r x × IsFirst a gs r x × Q r x

-- it has the groups over the regions to which so many rounds come from these ones
abbrev pub AnswersFrom : Algorithm → List SubjectText → List StoredText → ℕ → List (Option LaidText) → Option (Rule × List ℕ) → Result Lowered LowerError → Type 0
AnswersFrom a us gs n first o r = AnswersBy a gs (HasGroupsFrom a gs n first) (IsFirstFrom a us gs n first o) (IsNoneFrom a us gs n first o) o r

-- as many rounds as there may be, from the regions that are needed of the loops over whole functions
abbrev pub Answers : Algorithm → List SubjectText → List StoredText → Option (Rule × List ℕ) → Result Lowered LowerError → Type 0
Answers a us gs o r = AnswersFrom a us gs (rounds gs) (laid_functions a gs) o r
