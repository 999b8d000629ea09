-- What the private runs of a checked plan's pieces give, and the memory that they need.
use Rattle.std.specs.Prelude.{◌≡◌, ℕ, ◌<◌, ◌≤◌, List, [], length, map, Some, ℤ, pos, Contains, slice_get, vec_capacity}
use Rattle.numeric.specs.Wrap.{wrap}
use Rattle.meaning.specs.Image.View.{Picture}
use Rattle.tree.specs.Meaning.{typed}
use Rattle.tree.specs.declared.value.Value.{Value}
use Rattle.meaning.specs.Algorithm.{Algorithm}
use Rattle.meaning.specs.Value.{Calls}
use Rattle.plan.specs.Plan.{Plan}
use Rattle.plan.specs.Certificate.Certificate.{Certificate}
use Rattle.plan.specs.Certificate.Cells.{grid_point, pieces}
use Rattle.headline.specs.Work.{looked_value, needed_pieces, of_piece}
use Rattle.checked_plan.specs.declared.checked.Checked.{Checked}
use Rattle.checked_plan.specs.View.{algorithm_checked, plan_checked, certificate_checked}
use Rattle.board.specs.Layout.{Layout, own_of, pieces_of, value_at}
use Rattle.board.specs.Words.{bits_of}
use Rattle.interpreter.specs.Narrow.{PieceIsNarrow}
use Rattle.interpreter.specs.Outcome.{piece_gives}
use Rattle.interpreter.specs.Scratches.{room_of, IsScratchForAll}
use Rattle.interpreter.specs.declared.scratch.Scratch.{Scratch}
use Rattle.piece.specs.Looked.{cells_of_piece, numbers_of_piece}
use Rattle.piece.specs.declared.cells.LookedCells.{LookedCells}
use Rattle.piece.specs.Places.Places.{IsPlaceOf}

-- ---- what a piece fetches and needs

-- the numbers of the pieces that a piece needs
abbrev pub needs_in : Plan → Certificate → ℕ → List ℕ
needs_in p c j = of_piece (slice_get (pieces p) j) [] (needed_pieces p c)

-- the same of a checked plan, and the numbers of the cells that a piece fetches
abbrev pub needs_of : Checked → ℕ → List ℕ
needs_of x j = needs_in (plan_checked x) (certificate_checked x) j

abbrev pub fetched_of : Checked → ℕ → List ℕ
fetched_of x j = numbers_of_piece (plan_checked x) j

-- the cell is an own cell of one of these pieces
abbrev pub IsOwnOf : Layout → List ℕ → ℕ → Type 0
IsOwnOf layout ms c = (m : ℕ) × Contains ms m × Contains (own_of layout m) c

-- no piece owns more cells
abbrev pub IsMostOwn : Layout → ℕ → Type 0
IsMostOwn layout n = (j : ℕ) → j < pieces_of layout → length (own_of layout j) ≤ n

-- none of so many pieces fetches more cells
abbrev pub IsMostFetched : Checked → ℕ → ℕ → Type 0
IsMostFetched x count n = (j : ℕ) → j < count → length (fetched_of x j) ≤ n

-- ---- what is told of fetched cells

-- the bits of these cells' values, as numbers
abbrev pub words_at : List ℤ → List ℕ → List ℤ
words_at values cells = map (λ c. pos (bits_of (value_at values c))) cells

-- the value of the same type with these bits
abbrev pub as_typed : Value → Value
as_typed v = typed v.ty (wrap v.ty v.number)

-- what is told of a function at a point by the bits of the cells that a piece fetches
abbrev pub told_by : Algorithm → Plan → ℕ → List ℤ → Calls
told_by a p j words name at = as_typed (looked_value a p (cells_of_piece p j) words name at)

abbrev pub told : LookedCells → Calls
told x = told_by (algorithm_checked x.cells.now.checked.now) (plan_checked x.cells.now.checked.now) x.piece x.looked.items

-- the bits of the cells that this piece fetches were looked at
pub record HasLooked (values : List ℤ) (x : Checked) (j : ℕ) (l : LookedCells) : Type 0 where
  pub plan : l.cells.now.checked.now ≡ x
  pub piece : l.piece ≡ j
  pub words : l.looked.items ≡ words_at values (fetched_of x j)

-- there is room for the cells that any of so many pieces fetches
pub record HasRoom (x : Checked) (count : ℕ) (l : LookedCells) : Type 0 where
  pub plan : l.cells.now.checked.now ≡ x
  pub room : IsMostFetched x count (vec_capacity l.looked)

-- ---- what pieces give

-- on this picture each piece can be run, and gives the values of its own cells once it is told the bits of those that it
-- fetches; these are own cells of pieces that it needs, which are earlier ones
pub record GivesValues (layout : Layout) (values : List ℤ) (a : Algorithm) (p : Plan) (c : Certificate) (picture : Picture) : Type 0 where
  pub extents : picture.extents ≡ p.input.extents
  pub all : length (pieces p) ≡ pieces_of layout
  pub needs : (j : ℕ) → j < pieces_of layout → (m : ℕ) → Contains (needs_in p c j) m → m < j
  pub fetched : (j : ℕ) → j < pieces_of layout → (n : ℕ) → Contains (numbers_of_piece p j) n → IsOwnOf layout (needs_in p c j) n
  pub narrow : (j n k : ℕ) (at : IsPlaceOf p.groups j n k) → PieceIsNarrow c n at.g (grid_point at.g.grid k)
  pub gives : (j n k : ℕ) (at : IsPlaceOf p.groups j n k) → j < pieces_of layout →
      piece_gives p c picture.samples (told_by a p j (words_at values (numbers_of_piece p j))) n (grid_point at.g.grid k) ≡ Some (map (value_at values) (own_of layout j))

-- pieces that workers can be handed: each gives the values of its own cells, and none owns more cells than so many
abbrev pub AreReady : Layout → List ℤ → Algorithm → Plan → Certificate → Picture → ℕ → Type 0
AreReady layout values a p c picture most = GivesValues layout values a p c picture × IsMostOwn layout most

-- the same of a checked plan, which has lists for all its pieces
abbrev pub CanRun : Layout → List ℤ → Checked → Picture → ℕ → Type 0
CanRun layout values x picture most = AreReady layout values (algorithm_checked x) (plan_checked x) (certificate_checked x) picture most × (length x.pieces.items ≡ pieces_of layout)

-- ---- memory

-- the scratch has all the memory that a run of any piece takes
pub record HasMemory (layout : Layout) (p : Plan) (c : Certificate) (x : Scratch) : Type 0 where
  pub groups : IsScratchForAll x c p.groups
  pub given : IsMostOwn layout (room_of x)
