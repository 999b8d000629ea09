use Rattle.std.proofs.Common.{◌≡◌, take}
use Rattle.lin.proofs.scope.copy_bindings.Given as goal

abbrev pub invariant-loop-binding : goal.invariant-loop-binding
invariant-loop-binding l = l.copy ≡ take l.binding-index l.bindings
