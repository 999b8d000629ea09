-- The theorems: right pieces give right values, in every order, and the picture is among them.
use Rattle.std.specs.Prelude.{◌≡◌, ℕ, ◌<◌, List, length, Some, true, slice_get}
use Rattle.tree.specs.Term.{Term}
use Rattle.meaning.specs.Image.Raster.{sample_count, raster_point}
use Rattle.meaning.specs.Algorithm.{Algorithm}
use Rattle.meaning.specs.Conditions.{IsAlgorithm}
use Rattle.meaning.specs.Value.{output_value}
use Rattle.plan.specs.Plan.{Group, Plan}
use Rattle.plan.specs.Certificate.Certificate.{Certificate}
use Rattle.plan.specs.Certificate.Cells.{Cell, cell, cells}
use Rattle.orders.specs.Work.{Work, HasSoundLists, RunsRight}
use Rattle.orders.specs.Crew.{cell_at, go}
use Rattle.orders.specs.Outcome.{AllFinished, EveryOrderIsRight, OneWorkerFinishes}
use Rattle.headline.specs.Numbers.{cell_number, is_cell, GroupsHaveEnds}
use Rattle.headline.specs.Work.{target, work_of}
use Rattle.headline.specs.Sound.{IsRightPlan}

-- the private run of each piece of a right plan makes no fault, and on the algorithm's values of its fetched cells it gives
-- the algorithm's values of its own cells
abbrev pub PiecesRunRight : Type 0
PiecesRunRight =
    (a : Algorithm) (p : Plan) (c : Certificate) (samples : List ℕ) (put_in : Term → Term) →
    IsAlgorithm a → IsRightPlan a p c samples put_in → RunsRight (work_of a p c samples) (target a p samples)

-- the cells of this work are parted among its pieces, which look only at what they need
abbrev pub HasSoundCells : Work → Type 0
HasSoundCells work = HasSoundLists work.pieces work.cells work.own work.fetched work.needs

-- a right plan with sound lists is right in every order of steps, and one worker alone finishes it
abbrev pub PlansAreRight : Type 0
PlansAreRight =
    (a : Algorithm) (p : Plan) (c : Certificate) (samples : List ℕ) (put_in : Term → Term) →
    IsAlgorithm a → IsRightPlan a p c samples put_in → HasSoundCells (work_of a p c samples) →
    EveryOrderIsRight (work_of a p c samples) (target a p samples) × OneWorkerFinishes (work_of a p c samples)

-- the cell of the picture's n-th sample
abbrev pub output_cell : Algorithm → ℕ → ℕ → Cell
output_cell a o n = cell o (raster_point a.output_extents n)

-- each point of the output's extents that lies in the region of the output's group, which has number o, has a cell, whose
-- right value is the output's value there
abbrev pub OutputIsThere : Type 0
OutputIsThere =
    (a : Algorithm) (p : Plan) (samples : List ℕ) (o : ℕ) (g : Group) (n : ℕ) →
    GroupsHaveEnds p → slice_get p.groups o ≡ Some g → g.function ≡ a.output → n < sample_count a.output_extents → is_cell p (output_cell a o n) ≡ true →
    (cell_number p (output_cell a o n) < length (cells p))
    × (slice_get (cells p) (cell_number p (output_cell a o n)) ≡ Some (output_cell a o n))
    × (target a p samples (cell_number p (output_cell a o n)) ≡ output_value a samples (raster_point a.output_extents n))

-- after any order of steps, once all pieces are finished, the cell of each such point holds the output's value there
abbrev pub PicturesComeOut : Type 0
PicturesComeOut =
    (a : Algorithm) (p : Plan) (c : Certificate) (samples : List ℕ) (put_in : Term → Term) (o : ℕ) (g : Group) (order : List ℕ) (n : ℕ) →
    IsAlgorithm a → IsRightPlan a p c samples put_in → HasSoundCells (work_of a p c samples) → slice_get p.groups o ≡ Some g → g.function ≡ a.output →
    AllFinished (work_of a p c samples) (go (work_of a p c samples) order) → n < sample_count a.output_extents → is_cell p (output_cell a o n) ≡ true →
    cell_at (go (work_of a p c samples) order).table (cell_number p (output_cell a o n)) ≡ Some (output_value a samples (raster_point a.output_extents n))
