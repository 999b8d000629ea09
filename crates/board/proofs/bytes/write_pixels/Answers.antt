use Rattle.std.proofs.Common.{arith, refl}
use Rattle.board.proofs.Pixels.{one_woven}
use Rattle.board.proofs.bytes.write_pixels.Goals as goal

pub loop-turn-preserved : goal.loop-turn-preserved
loop-turn-preserved c =
    one_woven c.args.numbers.now c.args.count c.loop-turn.turn c.args.place _ _ _ c.args.bytes.now c.loop-turn.bytes
    (omega (arith, c.requires.room, c.loop-turn-test.true, c.loop-turn.auto.bytes)) c.loop-turn.invariant refl refl refl
