-- The points that a piece sets and gives have coordinates that are i32 values, where the cells that it fetches have.
use Rattle.std.specs.Prelude.{ℕ, ◌<◌}
use Rattle.std.specs.List.{AllByRecursion}
use Rattle.meaning.specs.Functions.{IsPoint}
use Rattle.plan.specs.Plan.{Group, Statement}
use Rattle.plan.specs.Symbols.{Symbols}
use Rattle.plan.specs.Certificate.Certificate.{Certificate}
use Rattle.plan.specs.Certificate.Cells.{Cell, grid_point, grid_symbols, group_pieces}
use Rattle.plan.specs.Semantics.Actions.{Action, Take, Put, Give, actions}
use Rattle.soundness.specs.Claims.{IsSound}
use Rattle.soundness.specs.Obligations.{Rules, Suited}
use Rattle.soundness.specs.Origins.{Given}
use Rattle.soundness.specs.Right.{at_start}
use Rattle.headline.specs.Fetched.{fetched_cells}
use Rattle.audit.specs.Verdict.Bounded.Near.{GroupIsNear}

-- a point that the action sets from nothing, by a fetch or by a pure definition, has such coordinates
abbrev pub SetsIndices : Action → Type 0
SetsIndices (Take b f p) = IsPoint p
SetsIndices (Put b f names p e) = IsPoint p
SetsIndices _ = Unit {0}

-- so has the point of a cell that the action gives
abbrev pub GivesIndices : Action → Type 0
GivesIndices (Give c p) = IsPoint p
GivesIndices _ = Unit {0}

-- a sound piece gives no point that it does not set
abbrev pub GivenAreIndices : Type 0
GivenAreIndices =
    (given : Given) (body : Statement) (line : ℕ) (s : Symbols) → IsSound given body line (at_start s) →
    AllByRecursion SetsIndices (actions given.outline.setting body s) → AllByRecursion GivesIndices (actions given.outline.setting body s)

-- a piece of a group whose stores' coordinates are shown to be i32 values sets no other points than those that it fetches
abbrev pub SetAreIndices : Type 0
SetAreIndices =
    (given : Given) (rules : Rules) (c : Certificate) (n : ℕ) (g : Group) (line k : ℕ) → Suited given rules → GroupIsNear rules c n g line →
    k < group_pieces g →
    AllByRecursion (λ (y : Cell). IsPoint y.point) (fetched_cells g.body (grid_symbols (grid_point g.grid k))) →
    AllByRecursion SetsIndices (actions given.outline.setting g.body (grid_symbols (grid_point g.grid k)))
