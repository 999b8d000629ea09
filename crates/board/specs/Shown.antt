-- How a board keeps which cells the picture shows.
use Rattle.std.specs.Prelude.{◌≡◌, ℕ, ◌+◌, ◌*◌, ◌^◌, ◌<◌, ◌≤◌, ℤ, List, map, slice_index}
use Rattle.std.specs.List.{range_with_len}
use Rattle.board.specs.Layout.{Layout, samples_in, shown_cell, value_at}
use Rattle.board.specs.Words.{cell_place, word_of}
use Rattle.board.specs.declared.source.Planes.{Planes}
use Rattle.board.specs.declared.shown.Shown.{Shown}
use Rattle.board.specs.declared.shown.Shown.TheVariants.{InPlanes, Listed}

-- the samples are these colours of these pixels, side by side, and the cell of colour c of the k-th pixel is the k-th of the c-th plane
pub record StandInPlanes (plan : Layout) (x : Planes) : Type 0 where
  pub all : samples_in plan ≡ x.pixels * x.colours
  pub cell : (k c : ℕ) → k < x.pixels → c < x.colours → shown_cell plan (k * x.colours + c) ≡ x.first + c * x.pixels + k

-- the cell of each sample, in raster order
abbrev pub AreShown : Layout → List ℕ → Type 0
AreShown plan cells = cells ≡ map (λ n. shown_cell plan n) (range_with_len 0 (samples_in plan))

-- what is kept says which cell each sample of the picture shows
abbrev pub Tells : Layout → Shown → Type 0
Tells plan (InPlanes x) = StandInPlanes plan x
Tells plan (Listed v) = AreShown plan v.items

-- each cell has its value
abbrev pub HasAll : Layout → List ℤ → List ℕ → Type 0
HasAll plan values words = (c : ℕ) → c < plan.cells → slice_index words (cell_place plan c) ≡ word_of (value_at values c)

-- the word of a cell whose value is a sample: one more than it
abbrev pub HoldsSample : ℕ → Type 0
HoldsSample word = (0 < word) × (word ≤ 2 ^ 16)
