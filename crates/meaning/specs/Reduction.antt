-- The points of a reduction domain, in order.
use Rattle.std.specs.Prelude.{ℕ, ◌+◌, ◌*◌, ◌/◌, ◌%◌, List, [], ◌∷◌, map, ℤ, pos, ◌+ℤ◌, ◌-ℤ◌, unsigned_abs}
use Rattle.std.specs.List.{range_with_len}
use Rattle.meaning.specs.Algorithm.{Range}

-- how many values the variable takes
abbrev pub width : Range → ℕ
width d = unsigned_abs (d.high -ℤ d.low) + 1

-- how many points there are
abbrev pub size : List Range → ℕ
size [] = 1
size (d ∷ ds) = width d * size ds

-- the n-th point, counted from 0: the first variable runs fastest
abbrev pub point : List Range → ℕ → List ℤ
point [] n = []
point (d ∷ ds) n = (d.low +ℤ pos (n % width d)) ∷ point ds (n / width d)

-- all points, in order
abbrev pub points : List Range → List (List ℤ)
points ds = map (point ds) (range_with_len 0 (size ds))

-- how many points come before this one
abbrev pub rank : List Range → List ℤ → ℕ
rank (d ∷ ds) (z ∷ zs) = unsigned_abs (z -ℤ d.low) + width d * rank ds zs
rank _ _ = 0
