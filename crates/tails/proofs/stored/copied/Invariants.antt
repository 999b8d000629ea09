use Rattle.std.proofs.Common.{◌≡◌, take}
use Rattle.tails.proofs.stored.copied.Given as goal

abbrev pub invariant-loop-binder : goal.invariant-loop-binder
invariant-loop-binder l = l.all.items ≡ take l.binder-index l.binders
