-- The samples of an image in raster order: rows from the top, in a row from the left, and colours side by side.
use Rattle.std.specs.Prelude.{ℕ, ◌+◌, ◌*◌, ◌/◌, ◌%◌, List, [], ◌∷◌, Bool, true, false, ◌&&◌, ℤ, pos, negsuc, nat_lt, if◌then◌else◌, slice_index}

-- whether a point lies on the extents
abbrev pub is_within : List ℕ → List ℤ → Bool
is_within [] [] = true
is_within (e ∷ es) (pos p ∷ ps) = nat_lt p e && is_within es ps
is_within _ _ = false

abbrev pub natural : ℤ → ℕ
natural (pos n) = n
natural (negsuc n) = 0

-- where a point's sample stands in the raster
abbrev pub place : List ℕ → List ℤ → ℕ
place (w ∷ []) (x ∷ []) = natural x
place (w ∷ h ∷ []) (x ∷ y ∷ []) = natural y * w + natural x
place (w ∷ h ∷ c ∷ []) (x ∷ y ∷ z ∷ []) = (natural y * w + natural x) * c + natural z
place _ _ = 0

-- the sample at a point, and 0 off the extents
abbrev pub sample : List ℕ → List ℕ → List ℤ → ℤ
sample extents samples p = if is_within extents p then pos (slice_index samples (place extents p)) else pos 0

-- how many samples there are
abbrev pub sample_count : List ℕ → ℕ
sample_count [] = 1
sample_count (e ∷ es) = e * sample_count es

-- the point of the n-th sample, counted from 0
abbrev pub raster_point : List ℕ → ℕ → List ℤ
raster_point (w ∷ []) n = pos n ∷ []
raster_point (w ∷ h ∷ []) n = pos (n % w) ∷ pos (n / w) ∷ []
raster_point (w ∷ h ∷ c ∷ []) n = pos (n / c % w) ∷ pos (n / c / w) ∷ pos (n % c) ∷ []
raster_point _ n = []

-- an image has one, two or three dimensions
abbrev pub HasRaster : List ℕ → Type 0
HasRaster (w ∷ []) = Unit {0}
HasRaster (w ∷ h ∷ []) = Unit {0}
HasRaster (w ∷ h ∷ c ∷ []) = Unit {0}
HasRaster _ = ⊥
