-- The lists of a plan's work, told by group and grid point, and what a list of numbers has to be to be one of them.
use Rattle.std.specs.Prelude.{◌==◌, if◌then◌else◌, ◌∷◌, ◌≡◌, ℕ, ◌+◌, ◌*◌, ◌-ℤ◌, ◌+ℤ◌, ◌<◌, ◌↔◌, List, [], length, map, Some, ℤ, pos, true, false, Contains, slice_get}
use Rattle.std.specs.List.{AllByRecursion}
use Rattle.std.specs.List.Sorted.{IsStrictlyIncreasing}
use Rattle.tree.specs.Meaning.{typed}
use Rattle.lin.specs.declared.span.Span1.{Span1}
use Rattle.meaning.specs.Algorithm.{Algorithm}
use Rattle.plan.specs.Plan.{Statement, Group, Plan}
use Rattle.plan.specs.Symbols.{Symbols, largest, smallest, clipped, turns, points}
use Rattle.plan.specs.Certificate.Certificate.{Certificate}
use Rattle.plan.specs.Certificate.Cells.{Cell, cell, first_piece, grid_point, grid_symbols, group_pieces, own_points, Piece, piece, pieces}
use Rattle.plan.specs.Semantics.Setting.{piece_run}
use Rattle.headline.specs.Fetched.{fetched_cells, fetches}
use Rattle.headline.specs.Numbers.{cell_number, is_cell, GroupsHaveEnds}
use Rattle.headline.specs.Work.{needs_this, needed_pieces, looked_value, numbers, work_of, cell_function, type_named}

-- the k-th piece of the n-th group
module _ (p : Plan) (n : ℕ) (g : Group) (k : ℕ) where
  abbrev pub number_of_piece : ℕ
  number_of_piece = first_piece p.groups n + k

  abbrev pub symbols_of_piece : Symbols
  symbols_of_piece = grid_symbols (grid_point g.grid k)

-- what the work says of it
pub record IsPart (a : Algorithm) (p : Plan) (c : Certificate) (samples : List ℕ) (n : ℕ) (g : Group) (k : ℕ) : Type 0 where
  pub inside : number_of_piece p n g k < (work_of a p c samples).pieces
  pub own : (work_of a p c samples).own (number_of_piece p n g k) ≡ map (cell_number p) (map (cell n) (own_points g c n (symbols_of_piece p n g k)))
  pub fetched : (work_of a p c samples).fetched (number_of_piece p n g k) ≡ map (cell_number p) (fetched_cells g.body (symbols_of_piece p n g k))
  pub needs : (work_of a p c samples).needs (number_of_piece p n g k) ≡ needed_pieces p c (piece g n k)
  pub run : (looked : List ℤ) → (work_of a p c samples).private_run (number_of_piece p n g k) looked
      ≡ numbers (piece_run p c samples (looked_value a p (fetched_cells g.body (symbols_of_piece p n g k)) looked) n g (grid_point g.grid k))

-- a piece of the work is the k-th of some group
pub record IsOfGroup (p : Plan) (j : ℕ) : Type 0 where
  pub n : ℕ
  pub g : Group
  pub k : ℕ
  pub group : slice_get p.groups n ≡ Some g
  pub inside : k < group_pieces g
  pub number : j ≡ number_of_piece p n g k

pub record PartsAreTheWork : Type 0 where
  pub part : (a : Algorithm) (p : Plan) (c : Certificate) (samples : List ℕ) (n : ℕ) (g : Group) (k : ℕ) → slice_get p.groups n ≡ Some g → k < group_pieces g → IsPart a p c samples n g k
  pub each : (a : Algorithm) (p : Plan) (c : Certificate) (samples : List ℕ) (j : ℕ) → j < (work_of a p c samples).pieces → IsOfGroup p j

-- the piece of this number is needed
abbrev pub IsNeeded : Plan → Certificate → Piece → ℕ → Type 0
IsNeeded p c j i = needs_this c j (slice_get (pieces p) i) ≡ true

-- the needed pieces are the one rising list of their numbers
pub record NeedsAreOneList : Type 0 where
  pub rises : (p : Plan) (c : Certificate) (j : Piece) → IsStrictlyIncreasing (needed_pieces p c j)
  pub members : (p : Plan) (c : Certificate) (j : Piece) (i : ℕ) → Contains (needed_pieces p c j) i ↔ IsNeeded p c j i
  pub only : (p : Plan) (c : Certificate) (j : Piece) (ns : List ℕ) → IsStrictlyIncreasing ns → ((i : ℕ) → Contains ns i ↔ IsNeeded p c j i) → ns ≡ needed_pieces p c j

-- a statement without a fetch line fetches nothing
abbrev pub NothingIsFetched : Type 0
NothingIsFetched = (a : Statement) (s : Symbols) → fetches a ≡ false → fetched_cells a s ≡ []

-- how many points a region has: the product of its spans' numbers
abbrev pub span_count : Symbols → Span1 → ℕ
span_count s x = clipped ((smallest s x.upper +ℤ pos 1) -ℤ largest s x.lower)

abbrev pub point_count : Symbols → List Span1 → ℕ
point_count s [] = 1
point_count s (x ∷ xs) = span_count s x * point_count s xs

pub record PointsAreCounted : Type 0 where
  pub turns : (s : Symbols) (x : Span1) → length (turns s x) ≡ span_count s x
  pub points : (s : Symbols) (xs : List Span1) → length (points s xs) ≡ point_count s xs

-- no two groups have one function
abbrev pub FunctionsAreDistinct : Plan → Type 0
FunctionsAreDistinct p = (m n : ℕ) (f g : Group) → slice_get p.groups m ≡ Some f → slice_get p.groups n ≡ Some g → f.function ≡ g.function → m ≡ n

-- a cell is told by its number, and by its function and point
pub record CellsAreApart : Type 0 where
  pub by_number : (p : Plan) (x y : Cell) → GroupsHaveEnds p → is_cell p x ≡ true → is_cell p y ≡ true → cell_number p x ≡ cell_number p y → x ≡ y
  pub by_name : (p : Plan) (x y : Cell) → FunctionsAreDistinct p → is_cell p x ≡ true → is_cell p y ≡ true →
      cell_function p x ≡ cell_function p y → x.point ≡ y.point → x ≡ y

-- the value at the first place of these that has the number, 0 where none has
abbrev pub first_value : ℕ → List ℕ → List ℤ → ℤ
first_value n (m ∷ ms) (v ∷ vs) = if m == n then v else first_value n ms vs
first_value n _ _ = pos 0

-- what is known of a cell by values of fetched cells is told by the cells' numbers
abbrev pub LooksAreByNumber : Type 0
LooksAreByNumber =
    (a : Algorithm) (p : Plan) (xs : List Cell) (looked : List ℤ) (x : Cell) →
    GroupsHaveEnds p → FunctionsAreDistinct p → AllByRecursion (λ y. is_cell p y ≡ true) xs → is_cell p x ≡ true →
    looked_value a p xs looked (cell_function p x) x.point ≡ typed (type_named a (cell_function p x)) (first_value (cell_number p x) (map (cell_number p) xs) looked)
