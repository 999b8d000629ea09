use Rattle.std.proofs.Common.{ℕ, List}
use Rattle.shares.proofs.Cornered.{IsHigh}
use Rattle.shares.proofs.corners.high_over.Given as goal

abbrev pub invariant-loop-form : goal.invariant-loop-form
invariant-loop-form l = IsHigh l.low l.high l.forms l.found
