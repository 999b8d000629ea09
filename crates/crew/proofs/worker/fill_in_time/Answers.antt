use Rattle.std.proofs.Common.{◌∙◌}
use Rattle.crew.proofs.Learnt.{learned_on}
use Rattle.crew.proofs.worker.fill_in_time.Goals as goal

pub loop-preserved : goal.loop-preserved
loop-preserved g c =
    let had = c.loop.invariant in
    record {
      can_next = tt;
      finite = tt;
      board = c.try_fill.ensures.board ∙ had.board;
      learned = learned_on c.args.seat.now.view c.loop.seat.view c.try_fill.new.seat.view had.learned c.try_fill.ensures.learned;
      ticket = c.in-Err.ensures.back.0 ∙ had.ticket;
      held = c.in-Err.ensures.back.1;
      scratch = c.try_fill.ensures.scratch;
      room = c.try_fill.ensures.room;
    }
