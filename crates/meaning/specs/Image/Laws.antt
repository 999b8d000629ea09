-- The laws of raster order, each of them the contract of a function.
use Rattle.std.specs.Prelude.{◌≡◌, ◌<◌, ℕ, List, ℤ, pos, true, false, slice_index}
use Rattle.meaning.specs.Image.Raster.{is_within, place, sample, sample_count, raster_point, HasRaster}

-- each place of the raster is that of one point on the extents, and each such point has a place
pub record RasterIsOrder : Type 0 where
  pub on_extents : (extents : List ℕ) (n : ℕ) → HasRaster extents → n < sample_count extents → is_within extents (raster_point extents n) ≡ true
  pub in_raster : (extents : List ℕ) (p : List ℤ) → HasRaster extents → is_within extents p ≡ true → place extents p < sample_count extents
  pub point_of_place : (extents : List ℕ) (p : List ℤ) → HasRaster extents → is_within extents p ≡ true → raster_point extents (place extents p) ≡ p
  pub place_of_point : (extents : List ℕ) (n : ℕ) → HasRaster extents → n < sample_count extents → place extents (raster_point extents n) ≡ n

-- the sample at a point is the one at its place, and 0 off the extents
pub record SampleIsAtPlace : Type 0 where
  pub on_extents : (extents samples : List ℕ) (p : List ℤ) → is_within extents p ≡ true → sample extents samples p ≡ pos (slice_index samples (place extents p))
  pub off_extents : (extents samples : List ℕ) (p : List ℤ) → is_within extents p ≡ false → sample extents samples p ≡ pos 0
  pub at_point : (extents samples : List ℕ) (n : ℕ) → HasRaster extents → n < sample_count extents → sample extents samples (raster_point extents n) ≡ pos (slice_index samples n)
