use Rattle.std.proofs.Common.{◌≡◌, ◌≤◌, ◌*◌, ◌-◌, ◌^◌, drop, min}
use Rattle.shares.specs.Boxes.{point_count}
use Rattle.shares.proofs.boxes.most_points.Given as goal

abbrev pub invariant-loop-side : goal.invariant-loop-side
invariant-loop-side l = (min (l.count * point_count (drop l.side-index l.sides)) (2 ^ 64 - 1) ≡ min (point_count l.sides) (2 ^ 64 - 1)) × (l.count ≤ 2 ^ 64 - 1)
