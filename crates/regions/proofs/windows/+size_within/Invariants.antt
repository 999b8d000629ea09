use Rattle.std.proofs.Common.{length}
use Rattle.regions.proofs.windows.+size_within.Given as goal

abbrev pub decreases-size_within : goal.decreases-size_within
decreases-size_within l = length l.lows.now
