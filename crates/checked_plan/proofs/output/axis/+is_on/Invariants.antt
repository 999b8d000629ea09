use Rattle.std.proofs.Common.{length}
use Rattle.checked_plan.proofs.output.axis.+is_on.Given as goal

abbrev pub decreases-is_on : goal.decreases-is_on
decreases-is_on l = length l.axes.now
