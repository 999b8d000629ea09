use Rattle.std.proofs.Common.{length}
use Rattle.regions.proofs.lacking.+calls_left.Given as goal

abbrev pub decreases-calls_left : goal.decreases-calls_left
decreases-calls_left l = length l.stored.now
