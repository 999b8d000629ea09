-- The rectangles into which an output is cut.
use Rattle.std.specs.Prelude.{◌≡◌, ℕ, Bool, ◌+◌, ◌-◌, ◌*◌, ◌/◌, ◌%◌, ◌<◌, ◌≤◌, min, nat_lt, not, ◌&&◌, if◌then◌else◌, List, [], ◌∷◌, Option, None, Some}
use Rattle.crop.specs.declared.cropping.Rect.{Rect}
use Rattle.crop.specs.declared.tiling.Tiling.{Tiling}

-- whether a tile's side is not 0 and not longer than the output's
abbrev pub fits_side : ℕ → ℕ → Bool
fits_side extent tile = nat_lt 0 tile && not (nat_lt extent tile)

abbrev pub tiling_in : ℕ → ℕ → ℕ → ℕ → Option Tiling
tiling_in width height tile_width tile_height =
    if fits_side width tile_width && fits_side height tile_height
    then Some (record { width = width; height = height; tile_width = tile_width; tile_height = tile_height }) else None

-- the tiling of an output of these extents; the height is 1 where there is one dimension
abbrev pub tiling_of : List ℕ → ℕ → ℕ → Option Tiling
tiling_of [] tile_width tile_height = None
tiling_of (width ∷ []) tile_width tile_height = tiling_in width 1 tile_width tile_height
tiling_of (width ∷ height ∷ _) tile_width tile_height = tiling_in width height tile_width tile_height

-- tiles have sides
pub record IsTiling (t : Tiling) : Type 0 where
  pub wide : 0 < t.tile_width
  pub high : 0 < t.tile_height

-- how many tiles lie side by side
abbrev pub side_count : ℕ → ℕ → ℕ
side_count extent tile = ((extent + tile) - 1) / tile

-- how long the tile is that begins there
abbrev pub side_length : ℕ → ℕ → ℕ → ℕ
side_length extent tile from = min (extent - from) tile

abbrev pub columns : Tiling → ℕ
columns t = side_count t.width t.tile_width

abbrev pub rows : Tiling → ℕ
rows t = side_count t.height t.tile_height

abbrev pub tile_count : Tiling → ℕ
tile_count t = columns t * rows t

-- the rectangle whose column and row are given
abbrev pub rect_in : Tiling → ℕ → ℕ → Rect
rect_in t column row = record {
  x = column * t.tile_width;
  y = row * t.tile_height;
  width = side_length t.width t.tile_width (column * t.tile_width);
  height = side_length t.height t.tile_height (row * t.tile_height);
}

-- the rectangle of a number, in raster order
abbrev pub rect_at : Tiling → ℕ → Rect
rect_at t number = rect_in t (number % columns t) (number / columns t)

-- the sample lies in the rectangle
pub record IsWithin (rect : Rect) (x y : ℕ) : Type 0 where
  pub left : rect.x ≤ x
  pub right : x < rect.x + rect.width
  pub above : rect.y ≤ y
  pub below : y < rect.y + rect.height

-- each sample of the output lies in one rectangle, and in no other
pub record IsOfOne (t : Tiling) (x y : ℕ) : Type 0 where
  pub number : ℕ
  pub known : number < tile_count t
  pub within : IsWithin (rect_at t number) x y
  pub alone : (other : ℕ) → other < tile_count t → IsWithin (rect_at t other) x y → other ≡ number

-- a rectangle has samples, and all of them lie in the output
pub record IsInside (t : Tiling) (rect : Rect) : Type 0 where
  pub wide : 0 < rect.width
  pub high : 0 < rect.height
  pub right : rect.x + rect.width ≤ t.width
  pub below : rect.y + rect.height ≤ t.height

-- the rectangles are a partition of the output
pub record IsPartition (t : Tiling) : Type 0 where
  pub inside : (number : ℕ) → number < tile_count t → IsInside t (rect_at t number)
  pub each : (x y : ℕ) → x < t.width → y < t.height → IsOfOne t x y

abbrev pub TilesArePartition : Type 0
TilesArePartition = (t : Tiling) → IsTiling t → IsPartition t
