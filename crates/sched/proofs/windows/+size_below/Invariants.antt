use Rattle.std.proofs.Common.{length}
use Rattle.sched.proofs.windows.+size_below.Given as goal

abbrev pub decreases-size_below : goal.decreases-size_below
decreases-size_below l = length l.highs.now
