use Rattle.std.proofs.Common.{length}
use Rattle.crop.proofs.compare.+same_updates.Given as goal

abbrev pub decreases-same_updates : goal.decreases-same_updates
decreases-same_updates l = length l.first.now
