use Rattle.std.proofs.Common.{◌+◌, length}
use Rattle.shares.proofs.gaps.+gap_sum.Given as goal

abbrev pub decreases-gap_sum : goal.decreases-gap_sum
decreases-gap_sum l = length l.upper.now + length l.lower.now
