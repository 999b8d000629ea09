use Rattle.std.proofs.Common.{length}
use Rattle.tails.proofs.order.+spans_rising.Given as goal

abbrev pub decreases-spans_rising : goal.decreases-spans_rising
decreases-spans_rising l = length l.steps.now
