use Rattle.std.proofs.Common.{◌≡◌, take}
use Rattle.plan.proofs.certificate.copying.copy_windows.Given as goal

abbrev pub invariant-loop-one : goal.invariant-loop-one
invariant-loop-one l = l.copied.items ≡ take l.one-index l.all
