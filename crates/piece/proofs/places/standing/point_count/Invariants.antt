use Rattle.std.proofs.Common.{◌≡◌, ◌-◌, ◌^◌, min, take}
use Rattle.plan.specs.Certificate.Cells.{piece_count}
use Rattle.piece.proofs.places.standing.point_count.Given as goal

abbrev pub invariant-loop-extent : goal.invariant-loop-extent
invariant-loop-extent l = l.count ≡ min (piece_count (take l.extent-index l.grid)) (2 ^ 64 - 1)
