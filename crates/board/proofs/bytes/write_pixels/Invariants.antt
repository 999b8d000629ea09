use Rattle.board.specs.Kept.{AreWoven}
use Rattle.board.proofs.bytes.write_pixels.Given as goal

abbrev pub invariant-loop-turn : goal.invariant-loop-turn
invariant-loop-turn l = AreWoven l.numbers l.count l.turn l.place l.initial.bytes l.bytes
