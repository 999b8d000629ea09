use Rattle.std.proofs.Common.{◌≡◌, take, min}
use Rattle.soundness.specs.Binders.View.{binders_of}
use Rattle.rules.specs.Bounding.Scopes.{most_symbols, symbol_count}
use Rattle.rules.proofs.bounding.scope.symbol_count.Given as goal

abbrev pub invariant-loop-binder : goal.invariant-loop-binder
invariant-loop-binder l = l.count ≡ min (symbol_count (binders_of (take l.binder-index l.binders))) most_symbols
