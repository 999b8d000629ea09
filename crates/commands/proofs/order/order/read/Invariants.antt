use Rattle.std.proofs.Common.{drop}
use Rattle.commands.proofs.Turns.{HasRead}
use Rattle.commands.proofs.order.order.read.Given as goal

abbrev pub invariant-loop-byte : goal.invariant-loop-byte
invariant-loop-byte l = HasRead l.byte-items l.workers.items l.number (drop l.byte-index l.byte-items)
