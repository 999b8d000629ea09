use Rattle.std.proofs.Common.{arith, refl}
use Rattle.board.proofs.ColourRows.{one_written}
use Rattle.board.proofs.bytes.copy_along.Goals as goal

pub loop-turn-preserved : goal.loop-turn-preserved
loop-turn-preserved c =
    let room = c.requires.room c.loop-turn.turn c.loop-turn-test.true in
    one_written c.args.numbers.now c.args.from c.loop-turn.turn c.args.place c.args.step _ c.args.bytes.now c.loop-turn.bytes c.requires.step
    (omega (arith, room, c.loop-turn.auto.bytes)) refl c.loop-turn.invariant
