use Rattle.std.proofs.Common.{◌≡◌, length, take}
use Rattle.orders.specs.Crew.{go}
use Rattle.steps.specs.Seats.{HaveRoom, shown}
use Rattle.steps.proofs.crew.Crew.go.Given as goal

abbrev pub invariant-loop-worker : goal.invariant-loop-worker
invariant-loop-worker g l = record {
  steps : shown l.self ≡ go (g.J.Runs.work l.job) (take l.worker-index l.order);
  seats : length l.self.workers.items ≡ length l.initial.self.workers.items;
  desk : g.J.Runs.suffices l.job l.desk;
  room : HaveRoom (g.J.Runs.work l.job) l.self.workers.items;
}
