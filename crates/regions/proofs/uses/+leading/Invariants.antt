use Rattle.std.proofs.Common.{length}
use Rattle.regions.proofs.uses.+leading.Given as goal

abbrev pub decreases-leading : goal.decreases-leading
decreases-leading l = length l.stored.now
