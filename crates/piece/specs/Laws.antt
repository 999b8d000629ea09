-- What is proved of the pieces of checked plans, each told by its group and grid point.
use Rattle.std.specs.Prelude.{◌≡◌, ℕ, List, ℤ}
use Rattle.meaning.specs.Algorithm.{Algorithm}
use Rattle.plan.specs.Plan.{Plan}
use Rattle.plan.specs.Certificate.Certificate.{Certificate}
use Rattle.plan.specs.Certificate.Cells.{grid_point}
use Rattle.headline.specs.Work.{looked_value, work_of}
use Rattle.checked_plan.specs.declared.checked.Checked.{Checked}
use Rattle.checked_plan.specs.View.{certificate_checked, plan_checked}
use Rattle.interpreter.specs.Narrow.{PieceIsNarrow}
use Rattle.interpreter.specs.Outcome.{piece_gives}
use Rattle.piece.specs.Places.Places.{IsPlaceOf}
use Rattle.piece.specs.Looked.{cells_of_piece}

-- the forms of each piece of a checked plan are small
abbrev pub PiecesAreNarrow : Type 0
PiecesAreNarrow = (x : Checked) (j n k : ℕ) (at : IsPlaceOf (plan_checked x).groups j n k) → PieceIsNarrow (certificate_checked x) n at.g (grid_point at.g.grid k)

-- what a piece gives over the values that it has looked at is its private run
abbrev pub RunsAreTheWork : Type 0
RunsAreTheWork =
    (a : Algorithm) (p : Plan) (c : Certificate) (samples : List ℕ) (looked : List ℤ) (j n k : ℕ) (at : IsPlaceOf p.groups j n k) →
    piece_gives p c samples (looked_value a p (cells_of_piece p j) looked) n (grid_point at.g.grid k) ≡ (work_of a p c samples).private_run j looked
