use Rattle.std.proofs.Common.{◌≡◌, ◌++◌, drop}
use Rattle.sched.specs.Skeleton.{body_of, kept_from}
use Rattle.sched.proofs.nest.kept.Given as goal

abbrev pub invariant-loop-dimension : goal.invariant-loop-dimension
invariant-loop-dimension l = l.found.items ++ kept_from (body_of l.body) l.dimension (drop l.dimension l.variables) ≡ kept_from (body_of l.body) 0 l.variables
