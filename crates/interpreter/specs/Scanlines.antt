-- Rows: what lies at points that differ in the first coordinate alone.
use Rattle.std.specs.Prelude.{ℕ, ◌+◌, ◌*◌, List, Option, Some, None, option_map, ℤ, pos, negsuc, slice_get, if◌then◌else◌}
use Rattle.numeric.specs.declared.ty.Ty.{Ty}
use Rattle.tree.specs.declared.value.Value.{Value}
use Rattle.tree.specs.Meaning.{typed}
use Rattle.meaning.specs.Image.Raster.{is_within, sample}

-- the element at a place, if there is one
abbrev pub along : {A : Type 0} → List A → ℤ → Option A
along xs (pos k) = slice_get xs k
along xs (negsuc k) = None

-- the sample at a place, as a number
abbrev pub sample_along : List ℕ → ℤ → Option ℤ
sample_along samples z = option_map (λ n. pos n) (along samples z)

-- the sample of a colour at a place of a row, each pixel of which has so many colours side by side
abbrev pub pixel_along : ℕ → ℕ → List ℕ → ℤ → Option ℤ
pixel_along colours colour samples (pos x) = sample_along samples (pos (x * colours + colour))
pixel_along colours colour samples (negsuc x) = None

-- what an image of these extents and samples has at a point, where its values are of the type
abbrev pub input_at : Ty → List ℕ → List ℕ → List ℤ → Option Value
input_at t extents samples p = if is_within extents p then Some (typed t (sample extents samples p)) else None
