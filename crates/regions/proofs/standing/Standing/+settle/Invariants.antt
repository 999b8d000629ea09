use Rattle.std.proofs.Common.{length}
use Rattle.regions.proofs.standing.Standing.+settle.Given as goal

abbrev pub decreases-settle : goal.decreases-settle
decreases-settle l = length l.some.now
