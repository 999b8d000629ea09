-- The cells and pieces of a plan, and the points that a piece owns and the pieces that it needs.
use Rattle.std.specs.Prelude.{ℕ, zero, suc, ◌+◌, ◌*◌, ◌/◌, ◌%◌, ◌-◌, ◌==◌, nat_lt, Bool, true, false, ◌&&◌, List, [], ◌∷◌, ◌++◌, map, filter, flat_map, length, Option, Some, None, ℤ, pos, int_le, if◌then◌else◌, slice_get}
use Rattle.std.specs.List.{list_all, range_with_len}
use Rattle.lin.specs.Forms.{Form}
use Rattle.lin.specs.declared.span.Span1.{Span1}
use Rattle.plan.specs.Plan.{Group, Plan}
use Rattle.plan.specs.Symbols.{Symbols, form_value, points}
use Rattle.plan.specs.declared.certificate.cert.Own.{Own}
use Rattle.plan.specs.declared.certificate.cert.Need.{Need}
use Rattle.plan.specs.Certificate.Certificate.{Certificate}

-- ---- pieces: a group and a grid point

abbrev pub piece_count : List ℕ → ℕ
piece_count [] = 1
piece_count (n ∷ ns) = n * piece_count ns

-- the grid point of the n-th piece of a group: the first symbol fastest
abbrev pub grid_point : List ℕ → ℕ → List ℕ
grid_point [] n = []
grid_point (m ∷ ms) n = (n % m) ∷ grid_point ms (n / m)

-- the number of a grid point among a group's pieces
abbrev pub grid_rank : List ℕ → List ℕ → ℕ
grid_rank (m ∷ ms) (x ∷ xs) = x + m * grid_rank ms xs
grid_rank _ _ = 0

abbrev pub grid_value : List ℕ → ℕ → ℤ
grid_value [] i = pos 0
grid_value (x ∷ xs) zero = pos x
grid_value (x ∷ xs) (suc i) = grid_value xs i

-- the symbols where only the grid's are bound
abbrev pub grid_symbols : List ℕ → Symbols
grid_symbols xs = record { value = grid_value xs; first = λ i. false }

-- the symbols of constants
abbrev pub no_symbols : Symbols
no_symbols = grid_symbols []

abbrev pub group_pieces : Group → ℕ
group_pieces g = piece_count g.grid

-- ---- cells: a root function and a point of its group's region

abbrev pub group_points : Group → List (List ℤ)
group_points g = points no_symbols g.region

abbrev pub is_in_span : Symbols → Span1 → ℤ → Bool
is_in_span s x z = list_all (λ l. int_le (form_value l s) z) x.lower && list_all (λ u. int_le z (form_value u s)) x.upper

abbrev pub is_in_region : Symbols → List Span1 → List ℤ → Bool
is_in_region s [] [] = true
is_in_region s (x ∷ xs) (z ∷ zs) = is_in_span s x z && is_in_region s xs zs
is_in_region s _ _ = false

-- the region that the certificate says that pieces of the group own, if it does
abbrev pub own_region : List Own → ℕ → Option (List Span1)
own_region [] g = None
own_region (o ∷ os) g = if o.group == g then Some o.region else own_region os g

-- the points of an own region that are cells, the first coordinate fastest
abbrev pub points_within : Group → Option (List Span1) → Symbols → List (List ℤ)
points_within g None s = []
points_within g (Some xs) s = filter (is_in_region no_symbols g.region) (points s xs)

-- the points that a piece of the group owns
abbrev pub own_points : Group → Certificate → ℕ → Symbols → List (List ℤ)
own_points g c number s = points_within g (own_region c.own number) s

-- a cell: the number of its group, and its point
pub record Cell : Type 0 where
  pub group : ℕ
  pub point : List ℤ

abbrev pub cell : ℕ → List ℤ → Cell
cell g p = record { group = g; point = p }

-- the pieces that a piece needs: the group and the grid point of each
abbrev pub needed : Certificate → ℕ → Symbols → List Cell
needed c number s = flat_map (λ n. if n.group == number then map (cell n.needed) (points s n.region) else []) c.needs

-- ---- numbers

-- pieces and cells are numbered from 0 through the groups in order
abbrev pub first_piece : List Group → ℕ → ℕ
first_piece [] g = 0
first_piece (x ∷ xs) zero = 0
first_piece (x ∷ xs) (suc g) = group_pieces x + first_piece xs g

abbrev pub first_cell : List Group → ℕ → ℕ
first_cell [] g = 0
first_cell (x ∷ xs) zero = 0
first_cell (x ∷ xs) (suc g) = length (group_points x) + first_cell xs g

-- the cells of a plan, in the order of their numbers
abbrev pub cells_from : ℕ → List Group → List Cell
cells_from g [] = []
cells_from g (x ∷ xs) = map (cell g) (group_points x) ++ cells_from (g + 1) xs

abbrev pub cells : Plan → List Cell
cells p = cells_from 0 p.groups

-- a piece: its group's number and its grid point
pub record Piece : Type 0 where
  pub group : ℕ
  pub at : List ℕ

abbrev pub piece : Group → ℕ → ℕ → Piece
piece x g n = record { group = g; at = grid_point x.grid n }

-- the pieces of a plan, in the order of their numbers
abbrev pub pieces_from : ℕ → List Group → List Piece
pieces_from g [] = []
pieces_from g (x ∷ xs) = map (piece x g) (range_with_len 0 (group_pieces x)) ++ pieces_from (g + 1) xs

abbrev pub pieces : Plan → List Piece
pieces p = pieces_from 0 p.groups
