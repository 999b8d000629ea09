-- What the crates that run a checked plan rest on, whatever form the plan has.
use Rattle.std.specs.Prelude.{◌≡◌, ℕ, ◌+◌, ◌^◌, ◌<◌, ◌≤◌, List, [], ◌∷◌, length, Some, true, false, ℤ, pos, slice_get}
use Rattle.std.specs.List.{AllByRecursion}
use Rattle.lin.specs.Forms.{IsWithin}
use Rattle.lin.specs.declared.span.Span1.{Span1}
use Rattle.meaning.specs.Image.Raster.{is_within}
use Rattle.meaning.specs.Algorithm.{Algorithm}
use Rattle.meaning.specs.Functions.{AreSamples, IsPoint}
use Rattle.meaning.specs.Names.{same_name}
use Rattle.plan.specs.Plan.{Group, Plan}
use Rattle.plan.specs.Symbols.{largest, smallest, turns}
use Rattle.plan.specs.Certificate.Certificate.{Certificate}
use Rattle.plan.specs.Certificate.Cells.{Cell, Piece, cell, cells, grid_point, group_pieces, no_symbols, pieces}
use Rattle.orders.specs.Work.{IsSound}
use Rattle.headline.specs.Numbers.{is_cell, GroupsHaveEnds}
use Rattle.headline.specs.Parts.{FunctionsAreDistinct}
use Rattle.headline.specs.Work.{cells_fetched, target, work_of}
use Rattle.headline.specs.Head.{SameInput}
use Rattle.headline.specs.Headline.{Headline}
use Rattle.interpreter.specs.Narrow.{PieceIsNarrow}

-- the ends of a span of constants: the largest lower one and the smallest upper one count
abbrev pub low_end : Span1 → ℤ
low_end x = largest no_symbols x.lower

abbrev pub high_end : Span1 → ℤ
high_end x = smallest no_symbols x.upper

-- the ends are near 0, and from 1 to 8192 numbers lie between them
pub record IsSmallSpan (x : Span1) : Type 0 where
  pub low : IsWithin (2 ^ 40) (low_end x)
  pub high : IsWithin (2 ^ 40) (high_end x)
  pub some : 1 ≤ length (turns no_symbols x)
  pub few : length (turns no_symbols x) ≤ 8192

-- the place of the first group of this function, and how many groups there are where none is
abbrev pub place_of_group : List Group → List ℕ → ℕ
place_of_group [] name = 0
place_of_group (g ∷ gs) name = elim (same_name g.function name) [ true ↦ 0 | false ↦ 1 + place_of_group gs name ]

-- a plan that may be run: its input is the algorithm's; on every input its pieces are sound work; pieces and cells are few, regions
-- small, of distinct functions, and forms come to 64-bit numbers; the coordinates of all cells are i32 values; what is fetched
-- are cells; and the output's group has each point of the output
pub record Ready (a : Algorithm) (p : Plan) (c : Certificate) : Type 0 where
  pub input : SameInput a p.input
  pub sound : (samples : List ℕ) → AreSamples a samples → IsSound (work_of a p c samples) (target a p samples)
  pub headline : Headline a p c
  pub few_pieces : length (pieces p) ≤ 2 ^ 20
  pub few_cells : length (cells p) ≤ 2 ^ 24
  pub regions : (n : ℕ) (g : Group) → slice_get p.groups n ≡ Some g → AllByRecursion IsSmallSpan g.region
  pub ends : GroupsHaveEnds p
  pub distinct : FunctionsAreDistinct p
  pub narrow : (n : ℕ) (g : Group) (k : ℕ) → slice_get p.groups n ≡ Some g → k < group_pieces g → PieceIsNarrow c n g (grid_point g.grid k)
  pub points : (y : Cell) → is_cell p y ≡ true → IsPoint y.point
  pub fetched : (j : ℕ) (x : Piece) → slice_get (pieces p) j ≡ Some x → AllByRecursion (λ y. is_cell p y ≡ true) (cells_fetched p x)
  pub output : (at : List ℤ) → is_within a.output_extents at ≡ true → is_cell p (cell (place_of_group p.groups a.output) at) ≡ true
