-- The cells that a piece fetches, by the piece's number.
use Rattle.std.specs.Prelude.{◌≡◌, ℕ, ◌<◌, List, [], length, map, ℤ, Option, Some, slice_get}
use Rattle.plan.specs.Plan.{Plan}
use Rattle.plan.specs.Certificate.Cells.{Cell, pieces}
use Rattle.headline.specs.Numbers.{cell_number}
use Rattle.headline.specs.Work.{cells_fetched, of_piece}
use Rattle.checked_plan.specs.Output.Cells.{number_in}
use Rattle.interpreter.specs.CellRows.{along}
use Rattle.piece.specs.Found.{first_found}

-- the cells that the piece of this number fetches, in their order
abbrev pub cells_of_piece : Plan → ℕ → List Cell
cells_of_piece p n = of_piece (slice_get (pieces p) n) [] (cells_fetched p)

-- and their numbers
abbrev pub numbers_of_piece : Plan → ℕ → List ℕ
numbers_of_piece p n = of_piece (slice_get (pieces p) n) [] (λ j. map (cell_number p) (cells_fetched p j))

-- what was looked at has a value for a group's cell at a point, if it has one
pub record IsLooked (p : Plan) (piece : ℕ) (looked : List ℤ) (group : ℕ) (at : List ℤ) (value : Option ℤ) : Type 0 where
  pub number : ℕ
  pub numbered : number_in p group at ≡ Some number
  pub found : first_found number (numbers_of_piece p piece) looked ≡ value

-- these are the values for a group's cells at so many points, from one on along the first coordinate
pub record IsLookedRow (p : Plan) (piece : ℕ) (looked : List ℤ) (group : ℕ) (at : List ℤ) (count : ℕ) (values : List ℤ) : Type 0 where
  pub long : length values ≡ count
  pub each : (k : ℕ) → k < count → IsLooked p piece looked group (along at k) (slice_get values k)
