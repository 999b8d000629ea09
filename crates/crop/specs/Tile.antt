-- The algorithm of a tile.
use Rattle.std.specs.Prelude.{◌≡◌, ℕ, pos, ◌+ℤ◌, ◌-ℤ◌, List, [], ◌∷◌}
use Rattle.meaning.specs.Algorithm.{Algorithm}
use Rattle.crop.specs.declared.cropping.Rect.{Rect}
use Rattle.crop.specs.declared.cut.Stretch.{Stretch}
use Rattle.crop.specs.Cutting.{Cut, IsCut, algorithm_cut}

-- so many numbers from one on
abbrev pub stretch_from : ℕ → ℕ → Stretch
stretch_from x n = record { low = pos x; high = (pos x +ℤ pos n) -ℤ pos 1 }

-- channels, which are never cut
abbrev pub channels_whole : List ℕ → List Stretch
channels_whole [] = []
channels_whole (n ∷ ns) = stretch_from 0 n ∷ channels_whole ns

-- a rectangle of an output of these extents, as a box
abbrev pub box_of : List ℕ → Rect → List Stretch
box_of [] rect = []
box_of (_ ∷ []) rect = stretch_from rect.x rect.width ∷ []
box_of (_ ∷ _ ∷ ns) rect = stretch_from rect.x rect.width ∷ stretch_from rect.y rect.height ∷ channels_whole ns

-- the algorithm `t` is that of the tile of `a` at the rectangle, and what is told is the part of the input that it reads
pub record IsTileOf (a : Algorithm) (rect : Rect) (t : Algorithm) (told : List Stretch) : Type 0 where
  pub cut : Cut
  pub is_cut : IsCut a cut
  pub algorithm : t ≡ algorithm_cut a cut
  pub part : told ≡ cut.part
  pub tile : cut.tile ≡ box_of a.output_extents rect
