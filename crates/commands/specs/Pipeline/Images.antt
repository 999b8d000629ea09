-- What is read as the file of an image.
use Rattle.std.specs.Prelude.{◌≡◌, ◌≤◌, ℕ, List, All, Ok, length}
use Rattle.meaning.specs.Image.Raster.{sample_count}
use Rattle.meaning.specs.Image.View.{Frame, IsShape, max_sample}
use Rattle.pnm.specs.Reading.{reading, wanted_of}

-- it has as many samples as the extents make, each of them a value of the type
abbrev pub ReadImagesFit : Type 0
ReadImagesFit = (f : Frame) (bytes samples : List ℕ) → IsShape f → reading (wanted_of f) bytes ≡ Ok samples
    → (length samples ≡ sample_count f.extents) × All (λ n. n ≤ max_sample f.ty) samples
