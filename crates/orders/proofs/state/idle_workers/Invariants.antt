use Rattle.std.proofs.Common.{◌≡◌, replicate}
use Rattle.orders.specs.declared.worker.Worker.TheVariants.{Idle}
use Rattle.orders.proofs.state.idle_workers.Given as goal

abbrev pub invariant-loop : goal.invariant-loop
invariant-loop l = l.workers.items ≡ replicate l.counter Idle
