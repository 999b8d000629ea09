use Rattle.std.proofs.Common.{length}
use Rattle.regions.proofs.nests.+add_turnings.Given as goal

abbrev pub decreases-add_turnings : goal.decreases-add_turnings
decreases-add_turnings l = length l.ranges.now
