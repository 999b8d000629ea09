-- How many bytes an image file takes.
use Rattle.std.specs.Prelude.{◌≡◌, ◌≤◌, ◌⊎◌, ℕ, length}
use Rattle.numeric.specs.declared.ty.Ty.{Ty}
use Rattle.numeric.specs.declared.ty.Ty.TheVariants.{U8}
use Rattle.meaning.specs.Image.Raster.{sample_count}
use Rattle.meaning.specs.Image.View.{Frame, Picture}
use Rattle.pnm.specs.Text.{text_of}

-- how many bytes a sample takes
abbrev pub sample_length : Ty → ℕ
sample_length U8 = 1
sample_length _ = 2

-- the image file of no picture of this shape takes more bytes
abbrev pub SufficesFor : Frame → ℕ → Type 0
SufficesFor f n = (p : Picture) → p.ty ≡ f.ty → p.extents ≡ f.extents → length p.samples ≡ sample_count f.extents → length (text_of p) ≤ n

-- memory of one size or of the other suffices
abbrev pub HasRoom : Frame → ℕ → ℕ → Type 0
HasRoom f own other = SufficesFor f own ⊎ SufficesFor f other

-- the picture's file has room in memory of one size or of the other
abbrev pub HasRoomFor : Picture → ℕ → ℕ → Type 0
HasRoomFor p own other = (length (text_of p) ≤ own) ⊎ (length (text_of p) ≤ other)
