use Rattle.std.proofs.Common.{◌≡◌, ◌++◌, drop}
use Rattle.sched.specs.Skeleton.{body_of, variables_at}
use Rattle.sched.proofs.nest.variables_at.Given as goal

abbrev pub invariant-loop-dimension : goal.invariant-loop-dimension
invariant-loop-dimension l = l.at.items ++ variables_at (body_of l.body) l.dimension (drop l.dimension l.variables) l.known ≡ variables_at (body_of l.body) 0 l.variables l.known
