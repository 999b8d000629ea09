-- How a sheet keeps its cells: as bits, or as the samples of the picture that shows them, where these are the last cells.
use Rattle.std.specs.Prelude.{◌≡◌, ◌≢◌, ℕ, ◌+◌, ◌-◌, ◌*◌, ◌/◌, ◌%◌, ◌^◌, ◌<◌, ◌≤◌, ℤ, List, ◌++◌, length, map, slice_index}
use Rattle.std.specs.List.{range_with_len}
use Rattle.numeric.specs.declared.ty.Ty.TheVariants.{U8}
use Rattle.board.specs.Layout.{Layout, samples_in, value_at}
use Rattle.board.specs.Shown.{StandInPlanes, Tells}
use Rattle.board.specs.Words.{bits_of}
use Rattle.board.specs.declared.kept.Kept.{Kept}
use Rattle.board.specs.declared.kept.Kept.TheVariants.{AsBits, AsSamples}
use Rattle.board.specs.declared.source.Planes.{Planes}

-- how many cells stand in planes
abbrev pub in_planes : Planes → ℕ
in_planes x = x.pixels * x.colours

-- the place of the sample that shows the d-th of these cells
abbrev pub sample_place : Planes → ℕ → ℕ
sample_place x d = d % x.pixels * x.colours + d / x.pixels

-- the samples in the order of their cells
abbrev pub by_cell : Planes → List ℕ → List ℕ
by_cell x samples = map (λ d. slice_index samples (sample_place x d)) (range_with_len 0 (in_planes x))

-- the bits of all cells: those that are kept as bits, and then those of the planes
abbrev pub all_bits : Planes → List ℕ → List ℕ → List ℕ
all_bits x bits samples = bits ++ by_cell x samples

-- no cell stands in these
abbrev pub no_planes : Planes
no_planes = record { first = 0; colours = 1; pixels = 0 }

-- the planes of the cells that are kept as samples
abbrev pub planes_of : Kept → Planes
planes_of (AsSamples x) = x
planes_of (AsBits v words) = no_planes

-- each sample of the picture is a byte, and their cells are the last, and stand in these planes
pub record AreBytes (plan : Layout) (x : Planes) : Type 0 where
  pub byte : plan.frame.ty ≡ U8
  pub stand : StandInPlanes plan x
  pub last : x.first + samples_in plan ≡ plan.cells

-- so many cells are kept as bits, and what is kept says which cell each sample of the picture shows
abbrev pub Keeps : Layout → Kept → ℕ → Type 0
Keeps plan (AsSamples x) n = AreBytes plan x × (n ≡ x.first)
Keeps plan (AsBits v words) n = Tells plan v × (n ≡ plan.cells) × (length words.items ≡ samples_in plan)

-- the values of the cells from this one on, below another, are samples of a byte
abbrev pub AreSamples : List ℤ → ℕ → ℕ → Type 0
AreSamples values from to = (c : ℕ) → from ≤ c → c < to → bits_of (value_at values c) < 2 ^ 8

-- so many numbers, from one on, stand in a list from a place on, each so many behind the one before, and all else is as before
pub record AreWritten (numbers : List ℕ) (from count place step : ℕ) (old new : List ℕ) : Type 0 where
  pub there : (k : ℕ) → k < count → slice_index new (place + k * step) ≡ slice_index numbers (from + k)
  pub others : (i : ℕ) → ((k : ℕ) → k < count → i ≢ place + k * step) → slice_index new i ≡ slice_index old i

-- of a list of three colours, one behind the other, so many numbers of each, the first so many stand in a list from a place on, those of a pixel side by side, and all else is as before
pub record AreWoven (numbers : List ℕ) (count done place : ℕ) (old new : List ℕ) : Type 0 where
  pub one : (k : ℕ) → k < done → slice_index new (place + k * 3) ≡ slice_index numbers k
  pub two : (k : ℕ) → k < done → slice_index new (place + k * 3 + 1) ≡ slice_index numbers (count + k)
  pub three : (k : ℕ) → k < done → slice_index new (place + k * 3 + 2) ≡ slice_index numbers (count + count + k)
  pub others : (i : ℕ) → ((k : ℕ) → k < done → (i ≢ place + k * 3) × (i ≢ place + k * 3 + 1) × (i ≢ place + k * 3 + 2)) → slice_index new i ≡ slice_index old i

-- behind n other cells, cells are those of three planes at so many pixels, from one on, plane by plane
pub record AreOfPixels (x : Planes) (n : ℕ) (cells : List ℕ) (pixel count : ℕ) : Type 0 where
  pub colours : x.colours ≡ 3
  pub inside : pixel + count ≤ x.pixels
  pub all : length cells ≡ count + count + count
  pub one : (k : ℕ) → k < count → slice_index cells k ≡ n + pixel + k
  pub two : (k : ℕ) → k < count → slice_index cells (count + k) ≡ n + x.pixels + pixel + k
  pub three : (k : ℕ) → k < count → slice_index cells (count + count + k) ≡ n + x.pixels + x.pixels + pixel + k

-- the cells of a part of a list follow each other
abbrev pub FollowEachOther : List ℕ → ℕ → ℕ → Type 0
FollowEachOther cells from to = (k : ℕ) → from ≤ k → k < to → slice_index cells k ≡ slice_index cells from + (k - from)
