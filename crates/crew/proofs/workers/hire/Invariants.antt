use Rattle.std.proofs.Common.{◌≡◌, ◌+◌, ◌-◌, ◌<◌, vec_len}
use Rattle.std.specs.Prelude.{All}
use Rattle.board.specs.Layout.{pieces_of}
use Rattle.board.specs.Views.{HasFinished, IsIdle}
use Rattle.crew.specs.Workers.{seats_held, IsReady}
use Rattle.crew.proofs.workers.hire.Given as goal

abbrev pub invariant-loop-first : goal.invariant-loop-first
invariant-loop-first g l = record {
  board : l.first.board ≡ l.initial.first.board;
  idle : IsIdle l.first.view;
  finished : HasFinished l.first.view;
  seats : l.first.view.seats ≡ l.first.view.allowance + 1;
  held : seats_held l.workers.items ≡ vec_len l.workers;
  allowance : l.first.view.allowance + vec_len l.workers ≡ 63;
  few : vec_len l.workers < l.count;
  ready : All (IsReady l.initial.first.board (g.P.PrivateRuns.plan l.runs) (pieces_of g.J.Run.layout) (g.P.PrivateRuns.suffices l.runs)) l.workers.items;
}

abbrev pub decreases-loop-first : goal.decreases-loop-first
decreases-loop-first g l = l.count - vec_len l.workers
