-- What is known of a group for its pieces' shares.
use Rattle.std.specs.Prelude.{◌≡◌, ℕ, List, length, Some, slice_get}
use Rattle.plan.specs.Plan.{Group, Plan}
use Rattle.plan.specs.Certificate.Certificate.{Certificate}
use Rattle.plan.specs.Certificate.Cells.{no_symbols, own_region, first_cell, first_piece}
use Rattle.shares.specs.declared.grounds.Ground.{Ground}
use Rattle.shares.specs.Boxes.{sides, grid_sides}
use Rattle.shares.specs.Shared.{IsLike}
use Rattle.shares.specs.Spaces.{IsSpace}

-- the spaces of the group's cells and pieces, and its own region
pub record IsGroundOf (p : Plan) (c : Certificate) (n : ℕ) (g : Group) (x : Ground) : Type 0 where
  pub first_cell : x.cells.first ≡ first_cell p.groups n
  pub cell_sides : x.cells.sides.items ≡ sides no_symbols g.region
  pub cells : IsSpace x.cells
  pub first_piece : x.pieces.first ≡ first_piece p.groups n
  pub piece_sides : x.pieces.sides.items ≡ grid_sides g.grid
  pub pieces : IsSpace x.pieces
  pub own : own_region c.own n ≡ Some x.own.now
  pub own_like : IsLike x.own.now (length g.region)

-- so many groups have theirs
pub record AreGrounds (p : Plan) (c : Certificate) (groups : ℕ) (xs : List Ground) : Type 0 where
  pub count : length xs ≡ groups
  pub each : (n : ℕ) (g : Group) (x : Ground) → slice_get p.groups n ≡ Some g → slice_get xs n ≡ Some x → IsGroundOf p c n g x

-- the boxes of the pieces are those of the groups' grids
abbrev pub HaveGrids : Plan → List Ground → Type 0
HaveGrids p xs = (n : ℕ) (g : Group) (x : Ground) → slice_get p.groups n ≡ Some g → slice_get xs n ≡ Some x → x.pieces.sides.items ≡ grid_sides g.grid
