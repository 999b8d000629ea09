use Rattle.std.proofs.Common.{◌≡◌, ◌++◌, drop, take}
use Rattle.sched.specs.Placing.{starting}
use Rattle.sched.proofs.placing.start.Given as goal

abbrev pub invariant-loop-dimension : goal.invariant-loop-dimension
invariant-loop-dimension l = (l.loops.items ++ starting l.dimension (drop l.dimension l.subject.variables.items) ≡ starting 0 l.subject.variables.items) × (l.used.items ++ drop l.dimension l.subject.variables.items ≡ l.subject.variables.items)

abbrev pub invariant-loop-name : goal.invariant-loop-name
invariant-loop-name l = l.used.items ++ drop l.name-index l.subject.reductions.items ≡ l.subject.variables.items ++ l.subject.reductions.items
