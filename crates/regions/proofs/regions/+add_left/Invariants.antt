use Rattle.std.proofs.Common.{length}
use Rattle.regions.proofs.regions.+add_left.Given as goal

abbrev pub decreases-add_left : goal.decreases-add_left
decreases-add_left l = length l.at.now
