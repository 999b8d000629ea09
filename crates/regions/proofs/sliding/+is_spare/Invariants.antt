use Rattle.std.proofs.Common.{length}
use Rattle.regions.proofs.sliding.+is_spare.Given as goal

abbrev pub decreases-is_spare : goal.decreases-is_spare
decreases-is_spare l = length l.others.now
