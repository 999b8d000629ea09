use Rattle.std.proofs.Common.{take}
use Rattle.shares.specs.Blocks.{AreOf}
use Rattle.shares.proofs.blocks.shared_front.Given as goal

abbrev pub invariant-loop-place : goal.invariant-loop-place
invariant-loop-place l = AreOf l.group l.count (take l.place l.seats)
