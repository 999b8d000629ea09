use Rattle.std.proofs.Common.{length}
use Rattle.crop.proofs.compare.+same_ranges.Given as goal

abbrev pub decreases-same_ranges : goal.decreases-same_ranges
decreases-same_ranges l = length l.first.now
