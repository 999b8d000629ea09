-- The picture in which each pixel has the colour of its piece.
use Rattle.std.specs.Prelude.{ℕ, List, [], ◌∷◌}
use Rattle.numeric.specs.declared.ty.Ty.TheVariants.{U8}
use Rattle.meaning.specs.Algorithm.{Algorithm}
use Rattle.meaning.specs.Image.View.{Frame, HasShape, Picture}

-- how many columns an image of these extents has, and how many rows: one, where there is but one dimension
abbrev pub width_of : List ℕ → ℕ
width_of [] = 1
width_of (w ∷ rest) = w

abbrev pub height_of : List ℕ → ℕ
height_of (w ∷ h ∷ rest) = h
height_of _ = 1

-- red, green and blue for each pixel of the output
abbrev pub drawn_frame : List ℕ → Frame
drawn_frame extents = record { ty = U8; extents = width_of extents ∷ height_of extents ∷ 3 ∷ [] }

-- the picture has the output's columns and rows, and each pixel has its three samples
abbrev pub IsDrawing : Algorithm → Picture → Type 0
IsDrawing a p = HasShape (drawn_frame a.output_extents) p
