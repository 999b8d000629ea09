use Rattle.std.proofs.Common.{ℕ, List}
use Rattle.shares.proofs.Cornered.{IsLow}
use Rattle.shares.proofs.corners.low_over.Given as goal

abbrev pub invariant-loop-form : goal.invariant-loop-form
invariant-loop-form l = IsLow l.low l.high l.forms l.found
