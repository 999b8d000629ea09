-- The pictures of tiles, put together.
use Rattle.std.specs.Prelude.{◌≡◌, ◌<◌, ℕ, List, ℤ, map, Some}
use Rattle.meaning.specs.Algorithm.{Algorithm}
use Rattle.meaning.specs.Functions.{AreSamples}
use Rattle.meaning.specs.Image.Raster.{sample}
use Rattle.meaning.specs.Picture.{picture}
use Rattle.crop.specs.declared.cropping.Rect.{Rect}
use Rattle.crop.specs.declared.cut.Stretch.{Stretch}
use Rattle.crop.specs.declared.tiling.Tiling.{Tiling}
use Rattle.crop.specs.Narrow.{IsScene}
use Rattle.crop.specs.Moving.{against, moved_point}
use Rattle.crop.specs.Cutting.{IsInBox, cut_samples, lows}
use Rattle.crop.specs.Tile.{IsTileOf, box_of}
use Rattle.crop.specs.Tiling.{IsPartition, rect_at, tile_count, tiling_of}

-- a point of the whole, counted from the corner of a rectangle
abbrev pub point_in : Algorithm → Rect → List ℤ → List ℤ
point_in a rect p = moved_point (map against (lows (box_of a.output_extents rect))) p

-- what a tile's algorithm gives of a part of the input
abbrev pub tile_picture : Algorithm → Algorithm → List Stretch → List ℕ → List ℕ
tile_picture a t part samples = picture t (cut_samples a.input_extents samples part)

-- the pictures of a tile's algorithm are the pictures of the whole, cut to the rectangle, sample by sample
pub record CutsPictures (a : Algorithm) (rect : Rect) (t : Algorithm) (part : List Stretch) : Type 0 where
  pub cut : (samples : List ℕ) → AreSamples a samples → tile_picture a t part samples ≡ cut_samples a.output_extents (picture a samples) (box_of a.output_extents rect)
  pub each : (samples : List ℕ) (p : List ℤ) → AreSamples a samples → IsInBox (box_of a.output_extents rect) p
      → sample t.output_extents (tile_picture a t part samples) (point_in a rect p) ≡ sample a.output_extents (picture a samples) p

-- each algorithm of a tile does
abbrev pub TileLaw : Type 0
TileLaw = (a : Algorithm) (rect : Rect) (t : Algorithm) (part : List Stretch) → IsScene a → IsTileOf a rect t part → CutsPictures a rect t part

-- the tiles' pictures, put together, are the picture: their rectangles are a partition of the output, and each tile's picture
-- has the samples of its rectangle
pub record IsMosaic (a : Algorithm) (tiling : Tiling) : Type 0 where
  pub partition : IsPartition tiling
  pub tiles : (number : ℕ) (t : Algorithm) (part : List Stretch) → number < tile_count tiling → IsTileOf a (rect_at tiling number) t part → CutsPictures a (rect_at tiling number) t part

abbrev pub MosaicLaw : Type 0
MosaicLaw = (a : Algorithm) (width height : ℕ) (tiling : Tiling) → IsScene a → tiling_of a.output_extents width height ≡ Some tiling → IsMosaic a tiling
