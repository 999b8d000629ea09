use Rattle.std.proofs.Common.{◌≡◌, take}
use Rattle.soundness.specs.Binders.View.{binders_of}
use Rattle.rules.specs.Bounding.Held.{told_by_one}
use Rattle.rules.specs.Bounding.Scopes.{binding_of}
use Rattle.rules.proofs.bounding.scope.innermost.Given as goal

abbrev pub invariant-loop-binder : goal.invariant-loop-binder
invariant-loop-binder l = told_by_one l.found ≡ binding_of (binders_of (take l.binder-index l.binders)) l.symbol
