use Rattle.std.proofs.Common.{◌≡◌, false, take}
use Rattle.std.specs.List.{list_any}
use Rattle.soundness.specs.Obligations.{binder_has}
use Rattle.soundness.specs.Binders.View.{binder_of}
use Rattle.obligations.proofs.context.symbols.binders_have.Given as goal

abbrev pub invariant-loop-binder : goal.invariant-loop-binder
invariant-loop-binder l = list_any (λ b. binder_has l.symbol (binder_of b)) (take l.binder-index l.binders) ≡ false
