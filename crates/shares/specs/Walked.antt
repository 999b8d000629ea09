-- The points that a box shares with another side by side, as they are walked.
use Rattle.std.specs.Prelude.{ℕ, ◌+◌, ◌*◌, ◌≤◌, ◌^◌, List, [], ◌∷◌, flat_map, pos, ◌+ℤ◌, ◌-ℤ◌}
use Rattle.std.specs.List.{range_with_len}
use Rattle.std.specs.Int.{int_max, int_min}
use Rattle.lin.specs.Forms.{IsWithin}
use Rattle.plan.specs.Symbols.{clipped}
use Rattle.shares.specs.declared.boxes.Side.{Side}

-- the numbers that two sides share
abbrev pub common : Side → Side → Side
common o r =
    let low = int_max o.low r.low in
    record { low = low; count = clipped (int_min (o.low +ℤ pos o.count) (r.low +ℤ pos r.count) -ℤ low) }

-- a side whose ends a machine's number holds
abbrev pub IsNear : Side → Type 0
IsNear x = IsWithin (2 ^ 44) x.low × (x.count ≤ 2 ^ 45 + 1)

-- a side of a region or of a grid
abbrev pub IsExtent : Side → Type 0
IsExtent x = IsWithin (2 ^ 44) x.low × (x.count ≤ 2 ^ 20)

-- the numbers in a box of the points that another shares with it, the first coordinate fastest
abbrev pub shared_cells : (own region : List Side) → List ℕ
shared_cells [] [] = 0 ∷ []
shared_cells (o ∷ os) (r ∷ rs) =
    flat_map (λ m. range_with_len (clipped ((common o r).low -ℤ r.low) + r.count * m) (common o r).count) (shared_cells os rs)
shared_cells _ _ = []
