-- Where a piece stands among the groups.
use Rattle.std.specs.Prelude.{◌≡◌, ℕ, ◌+◌, ◌<◌, List, Some, slice_get}
use Rattle.plan.specs.Plan.{Group}
use Rattle.plan.specs.Certificate.Cells.{first_piece, group_pieces}

-- the piece of this number is in the group of that number, after so many pieces of it
pub record IsPlaceOf (groups : List Group) (piece group rank : ℕ) : Type 0 where
  pub g : Group
  pub at : slice_get groups group ≡ Some g
  pub inside : rank < group_pieces g
  pub number : piece ≡ first_piece groups group + rank
