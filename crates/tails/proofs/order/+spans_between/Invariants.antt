use Rattle.std.proofs.Common.{length}
use Rattle.tails.proofs.order.+spans_between.Given as goal

abbrev pub decreases-spans_between : goal.decreases-spans_between
decreases-spans_between l = length l.spans.now
