-- The pieces that a piece needs, line after line.
use Rattle.std.specs.Prelude.{◌≡◌, ℕ, ◌+◌, ◌==◌, if◌then◌else◌, List, [], map, flat_map, All, IsTrue, ℤ, slice_get}
use Rattle.plan.specs.Plan.{Plan}
use Rattle.plan.specs.Symbols.{points}
use Rattle.plan.specs.declared.certificate.cert.Need.{Need}
use Rattle.plan.specs.Certificate.Cells.{Piece, first_piece, grid_symbols}
use Rattle.headline.specs.Numbers.{group_grid}
use Rattle.shares.specs.declared.boxes.Side.{Side}
use Rattle.shares.specs.Boxes.{grid_sides, is_in_box, rank}

-- the box of the needed group's grid
abbrev pub need_grid : Plan → Need → List Side
need_grid p n = grid_sides (group_grid (slice_get p.groups n.needed))

-- the points that a need line names at a piece
abbrev pub need_points : Piece → Need → List (List ℤ)
need_points j n = points (grid_symbols j.at) n.region

-- the numbers of the pieces that a need line names at a piece of its group
abbrev pub need_numbers : Plan → Piece → Need → List ℕ
need_numbers p j n = if n.group == j.group then map (λ q. first_piece p.groups n.needed + rank (need_grid p n) q) (need_points j n) else []

abbrev pub all_numbers : Plan → Piece → List Need → List ℕ
all_numbers p j ns = flat_map (need_numbers p j) ns

-- all points that a need line names at a piece of its group lie in the needed group's grid
abbrev pub NeedIsInside : Plan → Piece → Need → Type 0
NeedIsInside p j n = n.group ≡ j.group → All (λ q. IsTrue (is_in_box (need_grid p n) q)) (need_points j n)

abbrev pub NeedsAreInside : Plan → Piece → List Need → Type 0
NeedsAreInside p j ns = All (NeedIsInside p j) ns
