use Rattle.std.proofs.Common.{◌≡◌, ◌-◌}
use Rattle.board.specs.Layout.{pieces_of}
use Rattle.board.specs.Views.{next_after, HasFinished, IsIdle}
use Rattle.crew.specs.Private.{HasRoom}
use Rattle.crew.proofs.worker.draw_and_fill.Given as goal

abbrev pub invariant-loop-ticket : goal.invariant-loop-ticket
invariant-loop-ticket g l = record {
  board : l.seat.board ≡ l.initial.seat.board;
  idle : IsIdle l.seat.view;
  finished : HasFinished l.initial.seat.view → HasFinished l.seat.view;
  seats : l.seat.view.seats ≡ l.initial.seat.view.seats;
  scratch : g.P.PrivateRuns.suffices l.runs l.desk.scratch;
  room : HasRoom (g.P.PrivateRuns.plan l.runs) (pieces_of g.J.Run.layout) l.desk.looked;
}

abbrev pub decreases-loop-ticket : goal.decreases-loop-ticket
decreases-loop-ticket g l = pieces_of g.J.Run.layout - next_after l.seat.view.last
