use Rattle.std.proofs.Common.{◌≡◌, ◌++◌, drop}
use Rattle.sched.specs.Skeleton.{ranges_at}
use Rattle.sched.proofs.nest.ranges_at.Given as goal

abbrev pub invariant-loop-range : goal.invariant-loop-range
invariant-loop-range l = l.at.items ++ ranges_at (drop l.range-index l.ranges) l.known ≡ ranges_at l.ranges l.known
