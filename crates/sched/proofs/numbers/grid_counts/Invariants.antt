use Rattle.std.proofs.Common.{◌≡◌, ◌++◌, drop}
use Rattle.sched.specs.Numbers.{grid_counts, parallel_loops}
use Rattle.sched.proofs.numbers.grid_counts.Given as goal

abbrev pub invariant-loop-one : goal.invariant-loop-one
invariant-loop-one l = l.counts.items ++ grid_counts l.numbers (parallel_loops (drop l.one-index l.loops)) ≡ grid_counts l.numbers (parallel_loops l.loops)
