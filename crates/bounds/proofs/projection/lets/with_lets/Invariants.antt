use Rattle.std.proofs.Common.{◌≡◌}
use Rattle.bounds.specs.Projection.Lets.{with_lets_below}
use Rattle.bounds.proofs.projection.lets.with_lets.Given as goal

abbrev pub invariant-loop-symbol : goal.invariant-loop-symbol
invariant-loop-symbol l = l.inner.items ≡ with_lets_below l.scope l.loops l.symbol
