use Rattle.board.specs.Kept.{AreWritten}
use Rattle.board.proofs.bytes.copy_along.Given as goal

abbrev pub invariant-loop-turn : goal.invariant-loop-turn
invariant-loop-turn l = AreWritten l.numbers l.from l.turn l.place l.step l.initial.bytes l.bytes
