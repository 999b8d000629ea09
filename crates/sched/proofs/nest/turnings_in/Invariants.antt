use Rattle.std.proofs.Common.{◌≡◌, ◌++◌, drop}
use Rattle.sched.specs.Skeleton.{body_of, turnings_in}
use Rattle.sched.proofs.nest.turnings_in.Given as goal

abbrev pub invariant-loop-one : goal.invariant-loop-one
invariant-loop-one l = l.found.items ++ turnings_in (body_of l.body) l.vectorized l.numbers (drop l.one-index l.loops) ≡ turnings_in (body_of l.body) l.vectorized l.numbers l.loops
