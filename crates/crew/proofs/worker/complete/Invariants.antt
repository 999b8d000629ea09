use Rattle.std.proofs.Common.{◌≡◌}
use Rattle.board.specs.Seats.{seeing, task, IsTicketOf}
use Rattle.crew.proofs.Filling.{with_puts}
use Rattle.crew.proofs.worker.complete.Given as goal

abbrev pub invariant-loop-place : goal.invariant-loop-place
invariant-loop-place g l = record {
  seat : l.seat ≡ seeing l.initial.seat (with_puts l.initial.seat.view l.place);
  ticket : l.ticket ≡ task l.initial.ticket.piece l.place;
  held : IsTicketOf g.J.Run.layout l.seat.view l.ticket;
}
