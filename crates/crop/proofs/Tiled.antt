-- A tile, put together from what is shown of its parts.
use Rattle.std.proofs.Common.{◌≡◌, List, sym, ap, ◌∙◌, subst}
use Rattle.meaning.specs.Algorithm.{Algorithm}
use Rattle.crop.specs.declared.cropping.Rect.{Rect}
use Rattle.crop.specs.declared.cut.Stretch.{Stretch}
use Rattle.crop.specs.Cutting.{Cut, AreParts, AreTiles, algorithm_cut, extents_of}
use Rattle.crop.specs.Inside.{IsInside, AreRising}
use Rattle.crop.specs.Rebuilt.{rebuilt, IsKept}
use Rattle.crop.specs.Narrow.{narrowed, IsScene}
use Rattle.crop.specs.Tile.{box_of, IsTileOf}
use Rattle.crop.proofs.Sides.{box_tiles, rising_tiles, extents_small}
use Rattle.crop.proofs.Wide.{functions_cut_alike, closed_alike}

cut_alike : (a : Algorithm) (cut : Cut) → algorithm_cut (narrowed a) cut ≡ algorithm_cut a cut
cut_alike a cut = ap (λ fs. rebuilt a fs (extents_of cut.part) (extents_of cut.tile)) (functions_cut_alike a cut 0 a.functions cut.kept)

-- a rectangle inside a scene's output rises
pub rising_tile : (a : Algorithm) (rect : Rect) (ts : List Stretch) → IsScene a → IsInside a.output_extents rect → ts ≡ box_of a.output_extents rect → AreRising ts
rising_tile a rect ts w inside tile =
    subst AreRising (sym tile) (rising_tiles a.output_extents (box_of a.output_extents rect) (box_tiles a.output_extents rect inside (extents_small a.output_extents w.output_extents)))

-- `n` is the narrow algorithm of the scene `a`
pub tile_is : (a n : Algorithm) (cut : Cut) (rect : Rect) (t : Algorithm) (told : List Stretch) → n ≡ narrowed a → IsScene a → IsInside a.output_extents rect → cut.tile ≡ box_of a.output_extents rect
    → AreParts a.input_extents cut.asked cut.part → IsKept n cut → t ≡ algorithm_cut n cut → told ≡ cut.part → IsTileOf a rect t told
tile_is a n cut rect t told same w inside tile parts kept is part =
    let k : IsKept (narrowed a) cut = subst (λ (x : Algorithm). IsKept x cut) same kept in
    record {
      cut = cut;
      is_cut = record {
        each = k.each;
        output = k.output;
        tile = subst (AreTiles a.output_extents) (sym tile) (box_tiles a.output_extents rect inside (extents_small a.output_extents w.output_extents));
        closed = λ j f x e g. closed_alike a cut j f x (k.closed j f x e g);
        parts = parts;
      };
      algorithm = is ∙ ap (λ (x : Algorithm). algorithm_cut x cut) same ∙ cut_alike a cut;
      part = part;
      tile = tile;
    }
