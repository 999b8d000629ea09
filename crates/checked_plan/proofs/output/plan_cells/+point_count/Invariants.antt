use Rattle.std.proofs.Common.{length}
use Rattle.checked_plan.proofs.output.plan_cells.+point_count.Given as goal

abbrev pub decreases-point_count : goal.decreases-point_count
decreases-point_count l = length l.axes.now
