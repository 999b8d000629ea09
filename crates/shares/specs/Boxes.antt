-- Regions whose forms are numbers once the grid's symbols have values: boxes.
use Rattle.std.specs.Prelude.{ℕ, ◌+◌, ◌*◌, ◌≤◌, ◌^◌, Bool, true, false, ◌&&◌, List, [], ◌∷◌, map, ℤ, pos, ◌+ℤ◌, ◌-ℤ◌, int_le, IsTrue, All}
use Rattle.lin.specs.Forms.{Form, is_within_limits}
use Rattle.lin.specs.declared.span.Span1.{Span1}
use Rattle.plan.specs.Symbols.{Symbols, largest, smallest, clipped}
use Rattle.shares.specs.declared.boxes.Side.{Side}

-- forms within the limits
abbrev pub AreLimited : List Form → Type 0
AreLimited fs = All (λ f. IsTrue (is_within_limits f)) fs

-- a region of such forms
abbrev pub IsLimited : List Span1 → Type 0
IsLimited xs = All (λ x. AreLimited x.lower × AreLimited x.upper) xs

-- the coordinates of a grid point are small
abbrev pub IsSmall : List ℕ → Type 0
IsSmall at = All (λ x. x ≤ 2 ^ 20) at

-- the numbers of a span: so many from the lower end on
abbrev pub side : Symbols → Span1 → Side
side s x = record { low = largest s x.lower; count = clipped ((smallest s x.upper +ℤ pos 1) -ℤ largest s x.lower) }

abbrev pub sides : Symbols → List Span1 → List Side
sides s xs = map (side s) xs

-- the box of a grid's points
abbrev pub grid_sides : List ℕ → List Side
grid_sides ns = map (λ n. record { low = pos 0; count = n }) ns

-- how many points a box has
abbrev pub point_count : List Side → ℕ
point_count [] = 1
point_count (r ∷ rs) = r.count * point_count rs

-- whether a side has a number, and a box a point
abbrev pub is_in_side : Side → ℤ → Bool
is_in_side r z = int_le r.low z && int_le (z +ℤ pos 1) (r.low +ℤ pos r.count)

abbrev pub is_in_box : List Side → List ℤ → Bool
is_in_box [] [] = true
is_in_box (r ∷ rs) (z ∷ zs) = is_in_side r z && is_in_box rs zs
is_in_box _ _ = false

-- how many points of a box come before this one of it, the first coordinate fastest
abbrev pub rank : List Side → List ℤ → ℕ
rank (r ∷ rs) (z ∷ zs) = clipped (z -ℤ r.low) + r.count * rank rs zs
rank _ _ = 0
