use Rattle.std.proofs.Common.{length}
use Rattle.checked_plan.proofs.output.axis.+are_from_zero.Given as goal

abbrev pub decreases-are_from_zero : goal.decreases-are_from_zero
decreases-are_from_zero l = length l.axes.now
