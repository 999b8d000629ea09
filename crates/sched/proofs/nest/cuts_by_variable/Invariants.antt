use Rattle.std.proofs.Common.{◌≡◌, ◌++◌, drop}
use Rattle.sched.specs.Standing.{cuts_by_variable}
use Rattle.sched.proofs.nest.cuts_by_variable.Given as goal

abbrev pub invariant-loop-variable : goal.invariant-loop-variable
invariant-loop-variable l = l.found.items ++ cuts_by_variable l.cuts (drop l.variable-index l.variables) ≡ cuts_by_variable l.cuts l.variables
