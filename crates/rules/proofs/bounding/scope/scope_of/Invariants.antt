use Rattle.std.proofs.Common.{◌≡◌, map}
use Rattle.std.specs.List.{range_with_len}
use Rattle.soundness.specs.Binders.View.{binders_of}
use Rattle.rules.specs.Bounding.Scopes.{binding_of}
use Rattle.rules.proofs.bounding.scope.scope_of.Given as goal

abbrev pub invariant-loop-symbol : goal.invariant-loop-symbol
invariant-loop-symbol l = l.scope ≡ map (binding_of (binders_of l.binders)) (range_with_len 0 l.symbol)
