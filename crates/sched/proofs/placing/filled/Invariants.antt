use Rattle.std.proofs.Common.{◌≡◌, ◌++◌, drop}
use Rattle.sched.specs.Placing.{filled}
use Rattle.sched.proofs.placing.filled.Given as goal

abbrev pub invariant-loop-one : goal.invariant-loop-one
invariant-loop-one l = l.found.items ++ filled l.names l.next (drop l.one-index l.loops) ≡ filled l.names l.queue l.loops
