use Rattle.std.proofs.Common.{length}
use Rattle.shares.proofs.corners.+corner_sum.Given as goal

abbrev pub decreases-corner_sum : goal.decreases-corner_sum
decreases-corner_sum l = length l.terms.now
