use Rattle.std.proofs.Common.{length}
use Rattle.report.proofs.counting.+points_in.Given as goal

abbrev pub decreases-points_in : goal.decreases-points_in
decreases-points_in l = length l.region.now
