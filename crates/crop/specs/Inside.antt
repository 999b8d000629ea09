-- Where a rectangle lies in an output, and boxes whose numbers are few.
use Rattle.std.specs.Prelude.{◌≡◌, ℕ, ◌+◌, ◌≤◌, List, [], ◌∷◌, pos, ◌≤ℤ◌}
use Rattle.std.specs.List.{AllByRecursion}
use Rattle.crop.specs.declared.cropping.Rect.{Rect}
use Rattle.crop.specs.declared.cut.Stretch.{Stretch}

-- so many samples from one on, one or more, lie within an extent
abbrev pub IsWithin : ℕ → ℕ → ℕ → Type 0
IsWithin from count extent = (1 ≤ count) × (from + count ≤ extent)

-- a rectangle has samples and lies within the extents of an output; of an output of one dimension it is a part of the one row
abbrev pub IsInside : List ℕ → Rect → Type 0
IsInside [] rect = ⊥
IsInside (w ∷ []) rect = IsWithin rect.x rect.width w × (rect.y ≡ 0) × (rect.height ≡ 1)
IsInside (w ∷ h ∷ colours) rect = IsWithin rect.x rect.width w × IsWithin rect.y rect.height h

-- a rectangle has samples, and the places of all of them are numbers of i32
abbrev pub IsSmallRect : Rect → Type 0
IsSmallRect rect = IsWithin rect.x rect.width 2147483648 × IsWithin rect.y rect.height 2147483648

-- an extent of a scene
abbrev pub IsSmall : ℕ → Type 0
IsSmall n = (1 ≤ n) × (n ≤ 16777216)

abbrev pub AreSmall : List ℕ → Type 0
AreSmall = AllByRecursion IsSmall

-- numbers from one on, that is not below 0
abbrev pub IsRising : Stretch → Type 0
IsRising e = (pos 0 ≤ℤ e.low) × (e.low ≤ℤ e.high)

abbrev pub AreRising : List Stretch → Type 0
AreRising = AllByRecursion IsRising
