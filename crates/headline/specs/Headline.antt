-- What a yes of the checker promises.
use Rattle.std.specs.Prelude.{◌≡◌, ℕ, List, Some, ℤ, true, slice_get}
use Rattle.std.specs.List.{AllByRecursion}
use Rattle.meaning.specs.Image.Raster.{is_within}
use Rattle.meaning.specs.Image.View.{HasShape, Picture}
use Rattle.meaning.specs.Algorithm.{Algorithm}
use Rattle.meaning.specs.Conditions.{IsAlgorithm}
use Rattle.meaning.specs.Functions.{AreSamples}
use Rattle.meaning.specs.Value.{output_value}
use Rattle.plan.specs.Plan.{Plan}
use Rattle.plan.specs.Certificate.Certificate.{Certificate}
use Rattle.plan.specs.Certificate.Cells.{Cell, Piece, cells, pieces}
use Rattle.plan.specs.Semantics.Setting.{group_name}
use Rattle.orders.specs.Crew.{cell_at, go}
use Rattle.orders.specs.Outcome.{AllFinished, EveryOrderIsRight, OneWorkerFinishes}
use Rattle.headline.specs.Numbers.{cell_number, is_cell}
use Rattle.headline.specs.Work.{cells_fetched, work_of, target}

-- a point of the output has a cell of the plan, and its right value is the output's value there
pub record HasCell (a : Algorithm) (p : Plan) (samples : List ℕ) (at : List ℤ) : Type 0 where
  pub cell : Cell
  pub of_output : group_name (slice_get p.groups cell.group) ≡ a.output
  pub point : cell.point ≡ at
  pub stands : slice_get (cells p) (cell_number p cell) ≡ Some cell
  pub value : target a p samples (cell_number p cell) ≡ output_value a samples at

-- after these steps the output's cell of a point holds the output's value there
pub record HoldsValue (a : Algorithm) (p : Plan) (c : Certificate) (samples : List ℕ) (order : List ℕ) (at : List ℤ) : Type 0 where
  pub cell : Cell
  pub of_output : group_name (slice_get p.groups cell.group) ≡ a.output
  pub point : cell.point ≡ at
  pub stands : slice_get (cells p) (cell_number p cell) ≡ Some cell
  pub holds : cell_at (go (work_of a p c samples) order).table (cell_number p cell) ≡ Some (output_value a samples at)

-- On every input of the algorithm's shape and in every order of the workers' steps no step is a fault and all that is set is
-- right; one worker alone finishes all pieces; each point of the output has a cell whose right value is the output's value; once
-- all pieces are finished, in whatever order, that cell holds this value; and all that pieces fetch are cells of the plan.
pub record Headline (a : Algorithm) (p : Plan) (c : Certificate) : Type 0 where
  pub every_order : (samples : List ℕ) → AreSamples a samples → EveryOrderIsRight (work_of a p c samples) (target a p samples)
  pub one_worker : (samples : List ℕ) → AreSamples a samples → OneWorkerFinishes (work_of a p c samples)
  pub output : (samples : List ℕ) → AreSamples a samples → (at : List ℤ) → is_within a.output_extents at ≡ true → HasCell a p samples at
  pub finished : (samples : List ℕ) → AreSamples a samples → (order : List ℕ) → AllFinished (work_of a p c samples) (go (work_of a p c samples) order) →
      (at : List ℤ) → is_within a.output_extents at ≡ true → HoldsValue a p c samples order at
  pub fetched : (j : ℕ) (x : Piece) → slice_get (pieces p) j ≡ Some x → AllByRecursion (λ y. is_cell p y ≡ true) (cells_fetched p x)

-- a picture of the input's shape has samples of the input's type
abbrev pub InputsAreSamples : Type 0
InputsAreSamples = (a : Algorithm) (p : Picture) → IsAlgorithm a → HasShape (record { ty = a.input_ty; extents = a.input_extents }) p → AreSamples a p.samples
