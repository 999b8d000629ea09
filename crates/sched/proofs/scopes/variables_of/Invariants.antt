use Rattle.std.proofs.Common.{◌≡◌, ◌++◌, drop, map}
use Rattle.algo.specs.Parts.{names_of, range_of}
use Rattle.sched.specs.Around.{range_names}
use Rattle.sched.proofs.scopes.variables_of.Given as goal

abbrev pub invariant-loop-variable : goal.invariant-loop-variable
invariant-loop-variable l = map (λ x. x.now) l.names.items ++ names_of (drop l.variable-index l.function.variables.items) ≡ names_of l.function.variables.items

abbrev pub invariant-loop-range : goal.invariant-loop-range
invariant-loop-range l = map (λ x. x.now) l.names.items ++ range_names (map range_of (drop l.range-index l.ranges))
    ≡ names_of l.function.variables.items ++ range_names (map range_of l.ranges)
