-- What follows where no line of a plan, and none of its certificate, has a flaw.
use Rattle.std.specs.Prelude.{◌≡◌, ℕ, ◌^◌, ◌≤◌, [], length, All, Some, slice_get}
use Rattle.std.specs.List.{AllByRecursion}
use Rattle.meaning.specs.Algorithm.{Algorithm}
use Rattle.plan.specs.Plan.{Group, Plan}
use Rattle.plan.specs.Lines.{body_line}
use Rattle.plan.specs.Certificate.Certificate.{Certificate}
use Rattle.plan.specs.Certificate.Cells.{cells, pieces}
use Rattle.plan.specs.Semantics.Setting.{setting_of}
use Rattle.soundness.specs.Obligations.{Rules}
use Rattle.headline.specs.Numbers.{GroupsHaveEnds}
use Rattle.headline.specs.Parts.{FunctionsAreDistinct}
use Rattle.rules.specs.Widths.Widths.{wide_lines}
use Rattle.soundness.specs.Binders.View.{grid_binders}
use Rattle.validation.specs.Stored.Definitions.{stored_in}
use Rattle.validation.specs.Groups.Free.{IsFree}
use Rattle.shares.specs.Before.{IsDrawn}
use Rattle.shares.specs.Early.{AreReadBefore}
use Rattle.soundness.specs.declared.outline.refusals.code.Flaw.{Flaw as FlawHeld}
use Rattle.soundness.specs.Outline.Flaws.{first_of, told}
use Rattle.shares.specs.Shared.{AreShared}
use Rattle.audit.specs.Verdict.Bounded.Near.{GroupIsNear}
use Rattle.checked_plan.specs.Ready.Ready.{IsSmallSpan}
use Rattle.validation.specs.Certificate.Clear.{HasRegions, IsClear}
use Rattle.validation.specs.Groups.Lines.{flaws_of_groups}

-- definitions that are stored come to no updates of functions that are not
abbrev pub GroupsAreFree : Type 0
GroupsAreFree =
    (a : Algorithm) (p : Plan) (c : Certificate) → flaws_of_groups a p c ≡ [] → (n : ℕ) (g : Group) → slice_get p.groups n ≡ Some g → IsFree a (stored_in a p) (setting_of p c n g) g.body

-- what the shares of pieces rest on
abbrev pub PlansAreShared : Type 0
PlansAreShared = (a : Algorithm) (p : Plan) (c : Certificate) → flaws_of_groups a p c ≡ [] → HasRegions p c → AreShared p c

-- and of the lines of groups alone, whatever the certificate
abbrev pub PlansAreDrawn : Type 0
PlansAreDrawn = (a : Algorithm) (p : Plan) (c : Certificate) → flaws_of_groups a p c ≡ [] → IsDrawn p

-- and of the fetch lines before the first broken line of a group it can be told what they read
abbrev pub FetchesAreRead : Type 0
FetchesAreRead =
    (a : Algorithm) (p : Plan) (c : Certificate) (broken : FlawHeld) → told (Some broken) ≡ first_of (flaws_of_groups a p c) → AreReadBefore p broken.line

-- forms stand, by rules that find no line wide
abbrev pub GroupsAreNear : Type 0
GroupsAreNear =
    (a : Algorithm) (p : Plan) (c : Certificate) (rules : Rules) → flaws_of_groups a p c ≡ [] → IsClear a p c → (n : ℕ) (g : Group) → slice_get p.groups n ≡ Some g →
    wide_lines rules (grid_binders g.grid) (body_line p n) g.body ≡ [] → GroupIsNear rules c n g (body_line p n)

-- regions have constant ends and small extents
abbrev pub RegionsAreSmall : Type 0
RegionsAreSmall =
    (a : Algorithm) (p : Plan) (c : Certificate) → flaws_of_groups a p c ≡ [] → (n : ℕ) (g : Group) → slice_get p.groups n ≡ Some g → AllByRecursion IsSmallSpan g.region

-- cells and pieces are few
pub record IsSmallPlan (p : Plan) : Type 0 where
  pub cells : length (cells p) ≤ 2 ^ 24
  pub pieces : length (pieces p) ≤ 2 ^ 20

abbrev pub PlansAreSmall : Type 0
PlansAreSmall = (a : Algorithm) (p : Plan) (c : Certificate) → flaws_of_groups a p c ≡ [] → IsSmallPlan p

-- groups have regions with ends, and each function has one group at most
pub record HasGroupsApart (p : Plan) : Type 0 where
  pub ends : GroupsHaveEnds p
  pub distinct : FunctionsAreDistinct p

abbrev pub GroupsAreApart : Type 0
GroupsAreApart = (a : Algorithm) (p : Plan) (c : Certificate) → flaws_of_groups a p c ≡ [] → HasGroupsApart p

-- a grid that has a point has small counts
abbrev pub GridsAreSmall : Type 0
GridsAreSmall =
    (a : Algorithm) (p : Plan) (c : Certificate) → flaws_of_groups a p c ≡ [] → (n : ℕ) (g : Group) → slice_get p.groups n ≡ Some g → All (λ m. 1 ≤ m) g.grid → All (λ m. m ≤ 2 ^ 20) g.grid
