-- What of a sheet workers look at while others set samples of the picture, and what they set there.
use Rattle.std.specs.Prelude.{◌≡◌, ℕ, ◌+◌, ◌-◌, ◌<◌, ◌≤◌, ℤ, List, Contains, length, slice_index}
use Rattle.board.specs.Kept.{all_bits, in_planes, sample_place}
use Rattle.board.specs.Layout.{Layout, own_of, value_at}
use Rattle.board.specs.Words.{bits_of}
use Rattle.board.specs.declared.source.Planes.{Planes}

pub record Seen : Type 0 where
  -- the planes of the cells that are kept as samples
  pub planes : Planes
  -- the cells before them, which are kept as bits
  pub bits : List ℕ
  -- the samples; none where others set them meanwhile
  pub samples : List ℕ

-- the bits of all cells
abbrev pub seen_bits : Seen → List ℕ
seen_bits s = all_bits s.planes s.bits s.samples

-- the same cells beside these samples
abbrev pub beside : Seen → List ℕ → Seen
beside s samples = record { planes = s.planes; bits = s.bits; samples = samples }

-- ---- behind n cells that are kept as bits stand those of these planes

-- the place of the sample of a cell
abbrev pub place_of_cell : Planes → ℕ → ℕ → ℕ
place_of_cell x n c = sample_place x (c - n)

-- a cell of these planes, whose sample is one of so many from a place on
pub record LiesIn (x : Planes) (n from count c : ℕ) : Type 0 where
  pub past : n ≤ c
  pub cell : c < n + in_planes x
  pub behind : from ≤ place_of_cell x n c
  pub within : place_of_cell x n c < from + count

-- its sample is one of a part of all, which begins at this place, and is the cell's value
pub record HasSample (x : Planes) (n : ℕ) (values : List ℤ) (from : ℕ) (part : List ℕ) (c : ℕ) : Type 0 where
  pub there : LiesIn x n from (length part) c
  pub value : slice_index part (place_of_cell x n c - from) ≡ bits_of (value_at values c)

-- so have so many cells that follow each other
abbrev pub HasSamples : Planes → ℕ → List ℤ → ℕ → List ℕ → ℕ → ℕ → Type 0
HasSamples x n values from part first count = (k : ℕ) → k < count → HasSample x n values from part (first + k)

-- each cell that had its sample has it still
abbrev pub StaysShown : Planes → ℕ → List ℤ → ℕ → List ℕ → List ℕ → Type 0
StaysShown x n values from before after = (c : ℕ) → HasSample x n values from before c → HasSample x n values from after c

-- so have all own cells of piece j
abbrev pub IsShown : Layout → List ℤ → Seen → ℕ → List ℕ → ℕ → Type 0
IsShown plan values s from part j = (c : ℕ) → Contains (own_of plan j) c → HasSample s.planes (length s.bits) values from part c

-- no piece before this one owns a cell that is kept as a sample
abbrev pub NoneShown : Layout → Seen → ℕ → Type 0
NoneShown plan s to = (j : ℕ) → j < to → (c : ℕ) → Contains (own_of plan j) c → c < length s.bits
