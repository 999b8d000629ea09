use Rattle.std.proofs.Common.{length}
use Rattle.regions.proofs.calls.+with_updates.Given as goal

abbrev pub decreases-with_updates : goal.decreases-with_updates
decreases-with_updates l = length l.updates.now
