use Rattle.std.proofs.Common.{◌≡◌}
use Rattle.board.specs.Layout.{pieces_of}
use Rattle.board.specs.Seats.{IsTicketOf}
use Rattle.crew.specs.Learning.{HasLearned}
use Rattle.crew.specs.Private.{HasRoom}
use Rattle.crew.proofs.worker.fill_in_time.Given as goal

abbrev pub invariant-loop : goal.invariant-loop
invariant-loop g l = record {
  can_next : (goal.iterator-loop g).can_next l.iterator';
  finite : (goal.iterator-loop g).is_finite l.iterator';
  board : l.seat.board ≡ l.initial.seat.board;
  learned : HasLearned l.initial.seat.view l.seat.view;
  ticket : l.ticket ≡ l.initial.ticket;
  held : IsTicketOf g.J.Run.layout l.seat.view l.ticket;
  scratch : g.P.PrivateRuns.suffices l.runs l.desk.scratch;
  room : HasRoom (g.P.PrivateRuns.plan l.runs) (pieces_of g.J.Run.layout) l.desk.looked;
}
