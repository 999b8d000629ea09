use Rattle.std.proofs.Common.{◌≡◌, ◌++◌, drop}
use Rattle.sched.specs.Placing.{loops_named}
use Rattle.sched.proofs.placing.loops_named.Given as goal

abbrev pub invariant-loop-name : goal.invariant-loop-name
invariant-loop-name l = l.found.items ++ loops_named l.loops (drop l.name-index l.names) ≡ loops_named l.loops l.names
