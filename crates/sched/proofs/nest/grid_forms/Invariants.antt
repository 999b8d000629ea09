use Rattle.std.proofs.Common.{◌≡◌, ◌++◌, drop, length}
use Rattle.sched.specs.Numbers.{parallel_loops}
use Rattle.sched.specs.Skeleton.{grid_forms}
use Rattle.sched.proofs.nest.grid_forms.Given as goal

abbrev pub invariant-loop-one : goal.invariant-loop-one
invariant-loop-one l = l.known.items ++ grid_forms l.numbers (length l.known.items) (parallel_loops (drop l.one-index l.loops)) ≡ grid_forms l.numbers 0 (parallel_loops l.loops)
