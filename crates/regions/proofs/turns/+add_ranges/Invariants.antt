use Rattle.std.proofs.Common.{length}
use Rattle.regions.proofs.turns.+add_ranges.Given as goal

abbrev pub decreases-add_ranges : goal.decreases-add_ranges
decreases-add_ranges l = length l.ranges.now
