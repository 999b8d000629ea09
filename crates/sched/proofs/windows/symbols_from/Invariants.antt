use Rattle.std.proofs.Common.{◌≡◌, ◌++◌, ◌-◌}
use Rattle.sched.specs.Regions.{symbols_from}
use Rattle.sched.proofs.windows.symbols_from.Given as goal

abbrev pub invariant-loop-symbol : goal.invariant-loop-symbol
invariant-loop-symbol l = l.symbols.items ++ symbols_from l.symbol (l.count - l.symbol) ≡ symbols_from l.first (l.count - l.first)
