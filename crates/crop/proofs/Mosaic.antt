-- The pictures of tiles, put together, are the picture.
use Rattle.std.proofs.Common.{◌≡◌, ℕ, ◌≤◌, List, [], ◌∷◌, Some, None, true, false, ◌&&◌, if◌then◌else◌, ℤ, ◌≤ℤ◌, refl, ap, ◌∙◌, subst, arith}
use Rattle.std.specs.Prelude.{Bool, IfOk, Ok, Err}
use Rattle.std.specs.declared.result.Result.{Result}
use Rattle.std.proofs.lemmas.Int.{ints}
use Rattle.std.proofs.lemmas.Bool.Decides.{nat_tests}
use Rattle.numeric.specs.declared.ty.Ty.TheVariants.{I32}
use Rattle.numeric.specs.Wrap.{IsOf}
use Rattle.meaning.specs.Algorithm.{Algorithm}
use Rattle.meaning.specs.Functions.{AreSamples}
use Rattle.meaning.specs.Image.Raster.{sample}
use Rattle.meaning.specs.Picture.{picture}
use Rattle.crop.specs.declared.cropping.Rect.{Rect}
use Rattle.crop.specs.declared.cut.Stretch.{Stretch}
use Rattle.crop.specs.declared.tiling.Tiling.{Tiling}
use Rattle.crop.specs.Narrow.{IsScene}
use Rattle.crop.specs.Cutting.{AreParts, AreTiles, IsInBox, IsPart, IsTile, cut_samples, extents_of}
use Rattle.crop.specs.Tile.{IsTileOf, box_of}
use Rattle.crop.specs.Tiling.{IsTiling, fits_side, rect_at, tiling_of}
use Rattle.crop.specs.Mosaic.{CutsPictures, MosaicLaw, TileLaw, point_in, tile_picture}
use Rattle.crop.proofs.Grids.{partition}
use Rattle.crop.proofs.Points.{Coordinates}
use Rattle.crop.proofs.Samples.{cut_sample}
use Rattle.crop.proofs.Whole.{picture_cut}
use Rattle.crop.proofs.Wide.{AreFew, scene_few, scene_raster}

-- a tile is a part of its own
tile_part : (n : ℕ) (t : Stretch) → IsTile n t → IsPart n t t
tile_part n t h = let from = h.from in record {
  from = h.from;
  rises = h.rises;
  to = h.to;
  holds = λ z a b c d. (a, b);
  first = λ l. absurd (omega (arith, ints, l, from));
}

tile_parts : (es : List ℕ) (ts : List Stretch) → AreTiles es ts → AreParts es ts ts
tile_parts [] [] h = tt
tile_parts [] (t ∷ ts) h = absurd h
tile_parts (n ∷ ns) [] h = absurd h
tile_parts (n ∷ ns) (t ∷ ts) h = (tile_part n t h.0, tile_parts ns ts h.1)

-- the points of a tile have coordinates of i32
coordinate : (n : ℕ) (t : Stretch) (z : ℤ) → n ≤ 16777216 → IsTile n t → t.low ≤ℤ z → z ≤ℤ t.high → IsOf I32 z
coordinate n t z few h a b = let from = h.from in let to = h.to in record { from = omega (arith, ints, a, from); to = omega (arith, ints, b, to, few) }

coordinates : (es : List ℕ) (ts : List Stretch) (p : List ℤ) → AreFew es → AreTiles es ts → IsInBox ts p → Coordinates p
coordinates [] [] [] few h q = tt
coordinates [] [] (z ∷ zs) few h q = absurd q
coordinates [] (t ∷ ts) p few h q = absurd h
coordinates (n ∷ ns) [] p few h q = absurd h
coordinates (n ∷ ns) (t ∷ ts) [] few h q = absurd q
coordinates (n ∷ ns) (t ∷ ts) (z ∷ zs) few h q = (coordinate n t z few.0 h.0 q.0 q.1, coordinates ns ts zs few.1 h.1 q.2)

module _ (a : Algorithm) (rect : Rect) (t : Algorithm) (part : List Stretch) (w : IsScene a) (is : IsTileOf a rect t part) where
  box_tiles : AreTiles a.output_extents (box_of a.output_extents rect)
  box_tiles = subst (AreTiles a.output_extents) is.tile is.is_cut.tile

  extents : t.output_extents ≡ extents_of (box_of a.output_extents rect)
  extents = ap (λ (x : Algorithm). x.output_extents) is.algorithm ∙ ap extents_of is.tile

  whole : (samples : List ℕ) → AreSamples a samples → tile_picture a t part samples ≡ cut_samples a.output_extents (picture a samples) (box_of a.output_extents rect)
  whole samples typed =
      (λ i. tile_picture a (is.algorithm i) (is.part i) samples) ∙ picture_cut a w is.cut is.is_cut samples typed ∙ ap (cut_samples a.output_extents (picture a samples)) is.tile

  single : (samples : List ℕ) (p : List ℤ) → AreSamples a samples → IsInBox (box_of a.output_extents rect) p
      → sample t.output_extents (tile_picture a t part samples) (point_in a rect p) ≡ sample a.output_extents (picture a samples) p
  single samples p typed q =
      (λ i. sample (extents i) (whole samples typed i) (point_in a rect p))
      ∙ cut_sample a.output_extents (box_of a.output_extents rect) (box_of a.output_extents rect) (picture a samples) p (scene_raster a.output_extents w.output_extents)
      (tile_parts a.output_extents (box_of a.output_extents rect) box_tiles)
      (coordinates a.output_extents (box_of a.output_extents rect) p (scene_few a.output_extents w.output_extents) box_tiles q) q

pub tile_law : TileLaw
tile_law a rect t part w is = record { cut = whole a rect t part w is; each = single a rect t part w is }

-- a tiling of an output has sides
tiling_some : (w h u v : ℕ) (tiling : Tiling) (b : Bool) → fits_side w u && fits_side h v ≡ b
    → (if b then Some (record { width = w; height = h; tile_width = u; tile_height = v }) else None) ≡ Some tiling → IsTiling tiling
tiling_some w h u v tiling true e s = grind (arith, nat_tests)
tiling_some w h u v tiling false e s = cc

pub tiling_sides : (es : List ℕ) (u v : ℕ) (tiling : Tiling) → tiling_of es u v ≡ Some tiling → IsTiling tiling
tiling_sides [] u v tiling e = cc
tiling_sides (w ∷ []) u v tiling e = tiling_some w 1 u v tiling (fits_side w u && fits_side 1 v) refl e
tiling_sides (w ∷ h ∷ es) u v tiling e = tiling_some w h u v tiling (fits_side w u && fits_side h v) refl e

pub mosaic_law : MosaicLaw
mosaic_law a u v tiling w e = record { partition = partition tiling (tiling_sides a.output_extents u v tiling e); tiles = λ number t part l is. tile_law a (rect_at tiling number) t part w is }

-- whatever is cut to a tile cuts the pictures
pub cut_pictures : {X E : Type 0} (r : Result X E) (f : X → Algorithm) (g : X → List Stretch) (a : Algorithm) (rect : Rect) → IsScene a
    → IfOk r (λ x. IsTileOf a rect (f x) (g x)) → IfOk r (λ x. CutsPictures a rect (f x) (g x))
cut_pictures (Ok x) f g a rect w h = tile_law a rect (f x) (g x) w h
cut_pictures (Err e) f g a rect w h = tt
