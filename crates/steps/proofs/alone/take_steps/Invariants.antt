use Rattle.std.proofs.Common.{◌≡◌, length, replicate}
use Rattle.orders.specs.Crew.{go_from}
use Rattle.steps.specs.Seats.{HaveRoom, shown}
use Rattle.steps.proofs.alone.take_steps.Given as goal

abbrev pub invariant-loop : goal.invariant-loop
invariant-loop g l = record {
  steps : shown l.crew ≡ go_from (g.J.Runs.work l.job) (shown l.initial.crew) (replicate l.counter 0);
  seats : length l.crew.workers.items ≡ length l.initial.crew.workers.items;
  desk : g.J.Runs.suffices l.job l.desk;
  room : HaveRoom (g.J.Runs.work l.job) l.crew.workers.items;
}
