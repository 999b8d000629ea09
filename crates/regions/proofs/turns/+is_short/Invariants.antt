use Rattle.std.proofs.Common.{length}
use Rattle.regions.proofs.turns.+is_short.Given as goal

abbrev pub decreases-is_short : goal.decreases-is_short
decreases-is_short l = length l.cuts.now
