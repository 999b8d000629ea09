use Rattle.std.proofs.Common.{length}
use Rattle.regions.proofs.regions.+region_of.Given as goal

abbrev pub decreases-region_of : goal.decreases-region_of
decreases-region_of l = length l.reach.now
