-- What a shape and an image say, without how they are stored.
use Rattle.std.specs.Prelude.{◌≡◌, ℕ, ◌≤◌, List, [], ◌∷◌, All, length}
use Rattle.numeric.specs.declared.ty.Ty.{Ty}
use Rattle.numeric.specs.declared.ty.Ty.TheVariants.{U8, U16}
use Rattle.meaning.specs.declared.image.shape.Shape.{Shape}
use Rattle.meaning.specs.declared.image.picture.Image.{Image}
use Rattle.meaning.specs.declared.image.samples.Samples.{Samples}
use Rattle.meaning.specs.declared.image.samples.Samples.TheVariants.{Bytes, Words}
use Rattle.meaning.specs.Image.Raster.{sample_count}

-- a type of samples and the number of samples along each dimension
pub record Frame : Type 0 where
  pub ty : Ty
  pub extents : List ℕ

-- the samples of an image in raster order, with their type and the image's extents
pub record Picture : Type 0 where
  pub ty : Ty
  pub extents : List ℕ
  pub samples : List ℕ

abbrev pub shape_of : Shape → Frame
shape_of s = record { ty = s.ty; extents = s.extents.items }

-- the numbers of samples, however they are kept
abbrev pub numbers : Samples → List ℕ
numbers (Bytes bytes) = bytes.items
numbers (Words words) = words.items

abbrev pub image_of : Image → Picture
image_of i = record { ty = i.ty; extents = i.extents.items; samples = numbers i.samples }

-- the types of samples that images have
abbrev pub IsSampleType : Ty → Type 0
IsSampleType U8 = Unit {0}
IsSampleType U16 = Unit {0}
IsSampleType _ = ⊥

-- the greatest sample of a type
abbrev pub max_sample : Ty → ℕ
max_sample U8 = 255
max_sample _ = 65535

-- a width or a height
abbrev pub IsExtent : ℕ → Type 0
IsExtent n = (1 ≤ n) × (n ≤ 8192)

-- one row, rows of grey, or rows of red, green and blue
abbrev pub AreExtents : List ℕ → Type 0
AreExtents (w ∷ []) = IsExtent w
AreExtents (w ∷ h ∷ []) = IsExtent w × IsExtent h
AreExtents (w ∷ h ∷ c ∷ []) = IsExtent w × IsExtent h × (c ≡ 3)
AreExtents _ = ⊥

-- a shape that an image can have
pub record IsShape (frame : Frame) : Type 0 where
  pub ty : IsSampleType frame.ty
  pub extents : AreExtents frame.extents

-- the picture is one of this shape: it has the shape's number of samples, each of them a value of its type
pub record HasShape (frame : Frame) (p : Picture) : Type 0 where
  pub ty : p.ty ≡ frame.ty
  pub extents : p.extents ≡ frame.extents
  pub count : length p.samples ≡ sample_count frame.extents
  pub range : All (λ s. s ≤ max_sample frame.ty) p.samples
