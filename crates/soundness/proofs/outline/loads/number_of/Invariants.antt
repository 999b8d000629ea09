use Rattle.std.proofs.Common.{◌≡◌, ◌-◌, ◌^◌, min, take}
use Rattle.plan.specs.Claimed.{digits_after}
use Rattle.soundness.proofs.outline.loads.number_of.Given as goal

abbrev pub invariant-loop-digit : goal.invariant-loop-digit
invariant-loop-digit l = l.number ≡ min (digits_after 0 (take l.digit-index l.digits)) (2 ^ 64 - 1)
