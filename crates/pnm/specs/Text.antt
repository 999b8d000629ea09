-- The written form of an image.
use Rattle.std.specs.Prelude.{ℕ, ◌/◌, ◌%◌, List, [], ◌∷◌, ◌++◌, Bool, true, false, decimal}
use Rattle.std.specs.List.{flat_map}
use Rattle.numeric.specs.declared.ty.Ty.{Ty}
use Rattle.numeric.specs.declared.ty.Ty.TheVariants.{U8}
use Rattle.meaning.specs.Image.View.{Picture, max_sample}
use Rattle.pnm.specs.Reading.{width_of, height_of, has_colours}

-- P6 and LF for an image with colours, else P5 and LF
abbrev pub magic : Bool → List ℕ
magic true = 80 ∷ 54 ∷ 10 ∷ []
magic false = 80 ∷ 53 ∷ 10 ∷ []

-- a sample of the type: one byte, or two with the more significant first
abbrev pub sample_bytes : Ty → ℕ → List ℕ
sample_bytes U8 n = n % 256 ∷ []
sample_bytes _ n = n / 256 ∷ n % 256 ∷ []

-- width, blank, height, LF, the type's greatest sample, LF
abbrev pub numbers : Ty → List ℕ → List ℕ
numbers ty extents = (decimal (width_of extents) ++ 32 ∷ []) ++ (decimal (height_of extents) ++ 10 ∷ []) ++ (decimal (max_sample ty) ++ 10 ∷ [])

abbrev pub text_of : Picture → List ℕ
text_of p = magic (has_colours p.extents) ++ numbers p.ty p.extents ++ flat_map (sample_bytes p.ty) p.samples
