use Rattle.std.proofs.Common.{◌≡◌, length}
use Rattle.lower.proofs.reasons.sizes.flags_with.Given as goal

abbrev pub invariant-loop-number : goal.invariant-loop-number
invariant-loop-number l = length l.stored.items ≡ l.number
