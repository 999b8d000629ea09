-- The coordinates by which the points of a region are counted.
use Rattle.std.specs.Prelude.{ℕ, ◌+◌, ◌*◌, ◌<◌, ◌≤◌, ◌^◌, ◌&&◌, Bool, true, false, List, [], ◌∷◌, length, map, ℤ, pos, ◌+ℤ◌, ◌-ℤ◌, ◌≤ℤ◌, int_le, int_lt}
use Rattle.lin.specs.Forms.{IsWithin}
use Rattle.lin.specs.declared.span.Span1.{Span1}
use Rattle.plan.specs.Symbols.{largest, clipped, turns}
use Rattle.plan.specs.Certificate.Cells.{no_symbols}
use Rattle.checked_plan.specs.declared.output.axis.Axis.{Axis}

-- the low end of a span and how many numbers it has
abbrev pub axis_of : Span1 → Axis
axis_of x = record { low = largest no_symbols x.lower; count = length (turns no_symbols x) }

abbrev pub axes_of : List Span1 → List Axis
axes_of xs = map axis_of xs

-- how many points there are
abbrev pub point_count : List Axis → ℕ
point_count [] = 1
point_count (x ∷ xs) = x.count * point_count xs

-- the number is one of the axis, which is near 0 and short
pub record HasNumber (x : Axis) (z : ℤ) : Type 0 where
  pub low : x.low ≤ℤ z
  pub below : clipped (z -ℤ x.low) < x.count
  pub near : IsWithin (2 ^ 40) x.low
  pub short : x.count ≤ 8192

-- each coordinate of the point is one of its axis
abbrev pub IsOn : List Axis → List ℤ → Type 0
IsOn [] [] = Unit {0}
IsOn (x ∷ xs) (z ∷ zs) = HasNumber x z × IsOn xs zs
IsOn _ _ = ⊥

-- how many points come before this one, the first coordinate fastest
abbrev pub rank_of : List Axis → List ℤ → ℕ
rank_of (x ∷ xs) (z ∷ zs) = clipped (z -ℤ x.low) + x.count * rank_of xs zs
rank_of _ _ = 0

-- the low end is near 0, and the axis short
pub record IsNear (x : Axis) : Type 0 where
  pub low : IsWithin (2 ^ 40) x.low
  pub short : x.count ≤ 8192

-- whether each coordinate of the point is one of its axis
abbrev pub is_on : List Axis → List ℤ → Bool
is_on [] [] = true
is_on (x ∷ xs) (z ∷ zs) = int_le x.low z && int_lt z (x.low +ℤ pos x.count) && is_on xs zs
is_on _ _ = false

-- the coordinates whose numbers are those from 0 on, as many as each extent has
abbrev pub from_zero : List ℕ → List Axis
from_zero extents = map (λ e. record { low = pos 0; count = e }) extents
