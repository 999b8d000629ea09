use Rattle.std.proofs.Common.{length}
use Rattle.tails.proofs.windows.rows.+region_with.Given as goal

abbrev pub decreases-region_with : goal.decreases-region_with
decreases-region_with l = length l.region.now
