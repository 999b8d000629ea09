use Rattle.std.proofs.Common.{length}
use Rattle.report.proofs.costs.+point_count.Given as goal

abbrev pub decreases-point_count : goal.decreases-point_count
decreases-point_count l = length l.grid.now
