use Rattle.std.proofs.Common.{◌≡◌, ◌++◌, drop, map}
use Rattle.sched.specs.Around.{grid_symbol}
use Rattle.sched.proofs.scopes.grid_scope.Given as goal

abbrev pub invariant-loop-count : goal.invariant-loop-count
invariant-loop-count l = l.scope ++ map grid_symbol (drop l.count-index l.grid) ≡ map grid_symbol l.grid
