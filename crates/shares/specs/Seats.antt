-- Pieces as code has them.
use Rattle.std.specs.Prelude.{ℕ, List, map, filter, ◌==◌, All}
use Rattle.std.specs.List.{range_with_len}
use Rattle.std.specs.List.Sorted.{IsNonDecreasingBy}
use Rattle.plan.specs.Certificate.Cells.{Piece, grid_point}
use Rattle.shares.specs.declared.seats.Seat.{Seat}
use Rattle.shares.specs.Boxes.{IsSmall}

-- a piece's group and grid point
abbrev pub piece_of : Seat → Piece
piece_of x = record { group = x.group; at = x.at.items }

abbrev pub pieces_of : List Seat → List Piece
pieces_of xs = map piece_of xs

-- the pieces of a group of this number and grid, by rising number
abbrev pub grid_pieces : ℕ → List ℕ → ℕ → List Piece
grid_pieces group grid count = map (λ n. record { group = group; at = grid_point grid n }) (range_with_len 0 count)

-- the coordinates of all are small
abbrev pub AreSmall : List Seat → Type 0
AreSmall xs = All (λ x. IsSmall x.at.items) xs

-- they stand by rising groups
abbrev pub AreRising : List Seat → Type 0
AreRising xs = IsNonDecreasingBy (λ x. x.group) xs

-- those of the group of this number
abbrev pub of_group : ℕ → List Seat → List Seat
of_group group xs = filter (λ x. x.group == group) xs
