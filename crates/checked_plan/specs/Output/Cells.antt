-- The cell of each point of a group, and of the output, by its number.
use Rattle.std.specs.Prelude.{◌≡◌, ℕ, ◌+◌, ◌-◌, ◌*◌, ◌^◌, ◌<◌, List, ◌∷◌, length, min, true, if◌then◌else◌, Option, Some, None, ℤ, slice_get}
use Rattle.meaning.specs.Algorithm.{Algorithm}
use Rattle.meaning.specs.Functions.{AreSamples}
use Rattle.meaning.specs.Image.Raster.{is_within, natural}
use Rattle.meaning.specs.Value.{output_value}
use Rattle.plan.specs.Plan.{Group, Plan}
use Rattle.plan.specs.Certificate.Cells.{cell, cells, first_cell}
use Rattle.headline.specs.Numbers.{cell_number, group_region, is_cell}
use Rattle.headline.specs.Work.{target}
use Rattle.checked_plan.specs.Ready.Ready.{place_of_group}
use Rattle.checked_plan.specs.Output.Axes.{axes_of}
use Rattle.checked_plan.specs.declared.output.axis.Axis.{Axis}
use Rattle.checked_plan.specs.declared.output.plan_cells.GroupCells.{GroupCells}

-- the cells of one group: how many cells come before them, and the coordinates of its region
pub record Counted : Type 0 where
  pub first : ℕ
  pub axes : List Axis

-- what is held of a group
abbrev pub counted : GroupCells → Counted
counted x = record { first = x.first; axes = x.axes.items }

-- the cells of the group of this number; more cells than a u32 holds count as the greatest u32
abbrev pub cells_of_group : List Group → ℕ → Counted
cells_of_group gs n = record { first = min (first_cell gs n) (2 ^ 32 - 1); axes = axes_of (group_region (slice_get gs n)) }

-- the number of a group's cell at a point, none where its region has not the point
abbrev pub number_in : Plan → ℕ → List ℤ → Option ℕ
number_in p n at = if is_cell p (cell n at) then Some (cell_number p (cell n at)) else None

-- the number of the cell that has a point of the output
abbrev pub number_of_point : Algorithm → Plan → List ℤ → ℕ
number_of_point a p at = cell_number p (cell (place_of_group p.groups a.output) at)

-- how many points of the extents come before this one, the first coordinate fastest
abbrev pub points_before : List ℕ → List ℤ → ℕ
points_before (e ∷ es) (z ∷ zs) = natural z + e * points_before es zs
points_before _ _ = 0

-- the cells of a group at the points of the extents follow each other from this number on, the first coordinate fastest
abbrev pub FollowFrom : Plan → ℕ → List ℕ → ℕ → Type 0
FollowFrom p n extents first = (at : List ℤ) → is_within extents at ≡ true → cell_number p (cell n at) ≡ first + points_before extents at

-- the same of the output's cells at the points of its extents
abbrev pub OutputFollows : Algorithm → Plan → ℕ → Type 0
OutputFollows a p first = FollowFrom p (place_of_group p.groups a.output) a.output_extents first

-- it is a cell of the plan, and its right value is what the algorithm says of the output there
pub record HoldsOutput (a : Algorithm) (p : Plan) (at : List ℤ) : Type 0 where
  pub inside : number_of_point a p at < length (cells p)
  pub right : (samples : List ℕ) → AreSamples a samples → target a p samples (number_of_point a p at) ≡ output_value a samples at
