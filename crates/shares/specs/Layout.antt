-- The lists of pieces by their numbers.
use Rattle.std.specs.Prelude.{◌≡◌, ℕ, List, [], length, map, Option, Some, None, All, ℤ, IsTrue, slice_get}
use Rattle.lin.specs.declared.span.Span1.{Span1}
use Rattle.plan.specs.Plan.{Plan}
use Rattle.plan.specs.Symbols.{points}
use Rattle.plan.specs.View.{plan_of}
use Rattle.plan.specs.Certificate.Certificate.{Certificate, certificate_of}
use Rattle.plan.specs.Certificate.Cells.{Piece, Cell, pieces, own_region, grid_symbols}
use Rattle.headline.specs.Numbers.{cell_number, has_point, is_cell}
use Rattle.headline.specs.Work.{of_piece, own_cells, cells_fetched, needed_pieces}
use Rattle.shares.specs.declared.layout.Layout.{Layout}
use Rattle.shares.specs.Seats.{pieces_of, AreSmall}
use Rattle.shares.specs.Shared.{AreShared}
use Rattle.shares.specs.Grounds.{AreGrounds}
use Rattle.shares.specs.Filed.{AreFiled}
use Rattle.shares.specs.FetchLines.{LetsAreNear}

-- the numbers of the cells that a piece owns, of those that it fetches, and of the pieces that it needs
abbrev pub own_list : Plan → Certificate → ℕ → List ℕ
own_list p c n = of_piece (slice_get (pieces p) n) [] (λ j. map (cell_number p) (own_cells p c j))

abbrev pub fetched_list : Plan → ℕ → List ℕ
fetched_list p n = of_piece (slice_get (pieces p) n) [] (λ j. map (cell_number p) (cells_fetched p j))

abbrev pub needs_list : Plan → Certificate → ℕ → List ℕ
needs_list p c n = of_piece (slice_get (pieces p) n) [] (needed_pieces p c)

-- the points of a piece's own region, whether cells or not
abbrev pub region_points : Option (List Span1) → Piece → List (List ℤ)
region_points None j = []
region_points (Some xs) j = points (grid_symbols j.at) xs

abbrev pub PieceIsInside : Plan → Certificate → Option Piece → Type 0
PieceIsInside p c None = Unit {0}
PieceIsInside p c (Some j) = All (λ q. IsTrue (has_point (slice_get p.groups j.group) q)) (region_points (own_region c.own j.group) j)

-- the own region of a piece lies in its group's region
abbrev pub OwnIsInside : Plan → Certificate → ℕ → Type 0
OwnIsInside p c n = PieceIsInside p c (slice_get (pieces p) n)

-- the groups, pieces and need lines are those of the plan and its certificate
pub record IsLayout (x : Layout) : Type 0 where
  pub shared : AreShared (plan_of x.plan.now) (certificate_of x.cert.now)
  pub grounds : AreGrounds (plan_of x.plan.now) (certificate_of x.cert.now) (length x.plan.now.groups.items) x.grounds.items
  -- the lines `let` before fetch lines come to near numbers
  pub near : LetsAreNear (plan_of x.plan.now)
  pub seats : pieces_of x.seats.items ≡ pieces (plan_of x.plan.now)
  pub small : AreSmall x.seats.items
  pub needs : AreFiled x.cert.now.needs.items (length x.plan.now.groups.items) (map (λ xs. map (λ n. n.now) xs.items) x.needs.items)

-- all of these are cells
abbrev pub AllCells : Plan → List Cell → Type 0
AllCells p xs = All (λ x. IsTrue (is_cell p x)) xs

abbrev pub PieceFetchesCells : Plan → Option Piece → Type 0
PieceFetchesCells p None = Unit {0}
PieceFetchesCells p (Some j) = AllCells p (cells_fetched p j)

-- all points that a piece fetches are cells
abbrev pub FetchesCells : Plan → ℕ → Type 0
FetchesCells p n = PieceFetchesCells p (slice_get (pieces p) n)
