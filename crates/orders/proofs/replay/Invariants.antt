use Rattle.std.proofs.Common.{◌≡◌, take}
use Rattle.orders.specs.Crew.{go}
use Rattle.orders.specs.Seen.{crew_of}
use Rattle.orders.proofs.replay.Given as goal

abbrev pub invariant-loop-worker : goal.invariant-loop-worker
invariant-loop-worker g l = crew_of l.state ≡ go (g.J.Job.work l.job) (take l.worker-index l.order)
