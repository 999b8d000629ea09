use Rattle.std.proofs.Common.{◌≡◌, take}
use Rattle.rules.proofs.bounding.seats.with_constant.Given as goal

abbrev pub invariant-loop-term : goal.invariant-loop-term
invariant-loop-term l = l.made ≡ record { constant = l.constant; terms = take l.term-index l.term-items }
