use Rattle.std.proofs.Common.{length}
use Rattle.regions.proofs.sliding.+track_of.Given as goal

abbrev pub decreases-track_of : goal.decreases-track_of
decreases-track_of l = length l.steps.now
