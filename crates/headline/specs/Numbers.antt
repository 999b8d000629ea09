-- The numbers of cells and pieces, told by their groups and points.
use Rattle.std.specs.Prelude.{◌≡◌, ℕ, ◌+◌, ◌*◌, ◌<◌, ◌≤◌, List, [], ◌∷◌, length, Option, Some, None, Bool, true, false, ℤ, ◌-ℤ◌, slice_get}
use Rattle.std.specs.List.{AllByRecursion}
use Rattle.lin.specs.declared.span.Span1.{Span1}
use Rattle.plan.specs.Plan.{Group, Plan}
use Rattle.plan.specs.Symbols.{Symbols, largest, clipped, turns}
use Rattle.plan.specs.Certificate.Cells.{no_symbols, is_in_region, group_pieces, first_piece, first_cell, grid_rank, Cell, Piece, piece, cells, pieces}

-- how many points of a region come before this one of it, the first coordinate fastest
abbrev pub point_rank : Symbols → List Span1 → List ℤ → ℕ
point_rank s (x ∷ xs) (z ∷ zs) = clipped (z -ℤ largest s x.lower) + length (turns s x) * point_rank s xs zs
point_rank s _ _ = 0

abbrev pub group_region : Option Group → List Span1
group_region None = []
group_region (Some g) = g.region

-- the number of a cell
abbrev pub cell_number : Plan → Cell → ℕ
cell_number p x = first_cell p.groups x.group + point_rank no_symbols (group_region (slice_get p.groups x.group)) x.point

-- whether a group has the point in its region
abbrev pub has_point : Option Group → List ℤ → Bool
has_point None q = false
has_point (Some g) q = is_in_region no_symbols g.region q

-- a cell of the plan: one of its groups, and a point of the group's region
abbrev pub is_cell : Plan → Cell → Bool
is_cell p x = has_point (slice_get p.groups x.group) x.point

abbrev pub group_grid : Option Group → List ℕ
group_grid None = []
group_grid (Some g) = g.grid

-- the number of a piece
abbrev pub piece_number : Plan → Piece → ℕ
piece_number p x = first_piece p.groups x.group + grid_rank (group_grid (slice_get p.groups x.group)) x.at

-- a form on each side: without one a span has no end there
pub record HasEnds (x : Span1) : Type 0 where
  pub lower : 1 ≤ length x.lower
  pub upper : 1 ≤ length x.upper

abbrev pub HaveEnds : List Span1 → Type 0
HaveEnds region = AllByRecursion HasEnds region

abbrev pub GroupsHaveEnds : Plan → Type 0
GroupsHaveEnds p = (n : ℕ) (g : Group) → slice_get p.groups n ≡ Some g → HaveEnds g.region

-- a cell's number is its place among the plan's cells
pub record CellsAreNumbered : Type 0 where
  pub stands : (p : Plan) (x : Cell) → GroupsHaveEnds p → is_cell p x ≡ true → slice_get (cells p) (cell_number p x) ≡ Some x
  pub number : (p : Plan) (n : ℕ) (x : Cell) → slice_get (cells p) n ≡ Some x → (cell_number p x ≡ n) × (is_cell p x ≡ true)

-- the k-th piece of a group comes that much after the pieces of the groups before it, and its number tells its place
pub record PiecesAreNumbered : Type 0 where
  pub stands : (p : Plan) (n : ℕ) (g : Group) (k : ℕ) → slice_get p.groups n ≡ Some g → k < group_pieces g →
      slice_get (pieces p) (first_piece p.groups n + k) ≡ Some (piece g n k)
  pub number : (p : Plan) (j : ℕ) (x : Piece) → slice_get (pieces p) j ≡ Some x →
      (g : Group) × (k : ℕ) × (slice_get p.groups x.group ≡ Some g) × (k < group_pieces g) × (x ≡ piece g x.group k) × (j ≡ first_piece p.groups x.group + k) × (piece_number p x ≡ j)
