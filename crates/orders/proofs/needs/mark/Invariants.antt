use Rattle.std.proofs.Common.{◌+◌, take}
use Rattle.orders.specs.Claimed.{IsMarkedBefore, AreMarked}
use Rattle.orders.proofs.needs.mark.Given as goal

abbrev pub invariant-loop-needed : goal.invariant-loop-needed
invariant-loop-needed l = IsMarkedBefore l.marks (l.piece + 1) × AreMarked l.marks (take l.needed-index l.needs) l.piece
