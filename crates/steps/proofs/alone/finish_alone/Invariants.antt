use Rattle.std.proofs.Common.{◌≡◌, length, replicate}
use Rattle.orders.specs.Crew.{go}
use Rattle.orders.specs.Work.{steps_before}
use Rattle.steps.specs.Seats.{HaveRoom, shown}
use Rattle.steps.proofs.alone.finish_alone.Given as goal

abbrev pub invariant-loop-piece : goal.invariant-loop-piece
invariant-loop-piece g l =
    let work = g.J.Runs.work l.job in record {
      steps : shown l.crew ≡ go work (replicate (steps_before work l.piece) 0);
      seats : length l.crew.workers.items ≡ length l.initial.crew.workers.items;
      desk : g.J.Runs.suffices l.job l.desk;
      room : HaveRoom work l.crew.workers.items;
    }
