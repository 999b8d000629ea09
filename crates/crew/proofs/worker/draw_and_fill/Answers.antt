use Rattle.std.proofs.Common.{sym, ap, ◌∙◌, subst}
use Rattle.board.specs.Seats.{Place}
use Rattle.board.specs.Views.{drew, HasFinished, IsIdle}
use Rattle.board.specs.declared.view.View.{View}
use Rattle.crew.specs.Learning.{HasLearned}
use Rattle.crew.proofs.Filling.{finished_filled, idle_filled}
use Rattle.crew.proofs.worker.draw_and_fill.Goals as goal

pub returns-clause-idle : goal.returns-clause-idle
returns-clause-idle g c = subst (λ (p : Place). IsIdle p.view) (sym c.in_default.ensures.none) c.loop-ticket.invariant.idle

pub returns-clause-finished : goal.returns-clause-finished
returns-clause-finished g c = λ before. subst (λ (p : Place). HasFinished p.view) (sym c.in_default.ensures.none) (c.loop-ticket.invariant.finished before)

pub loop-ticket-preserved : goal.loop-ticket-preserved
loop-ticket-preserved g c =
    let piece = c.in-Some.ticket.piece in
    let had = c.loop-ticket.invariant in
    let old : View = c.loop-ticket.seat.view in
    let new : View = c.fill_in_time.new.seat.view in
    let learned : HasLearned (drew old piece) new = subst (λ (p : Place). HasLearned p.view new) c.in-Some.ensures.some.0 c.fill_in_time.ensures.learned in
    record {
      board = c.fill_in_time.ensures.board ∙ ap (λ (s : Place). s.board) c.in-Some.ensures.some.0 ∙ had.board;
      idle = idle_filled old new piece learned c.fill_in_time.ensures.finished;
      finished = λ before. finished_filled old new piece learned c.fill_in_time.ensures.finished (had.finished before);
      seats = learned.seats ∙ had.seats;
      scratch = c.fill_in_time.ensures.scratch;
      room = c.fill_in_time.ensures.room;
    }
