use Rattle.std.proofs.Common.{length}
use Rattle.regions.proofs.standing.+add_limited.Given as goal

abbrev pub decreases-add_limited : goal.decreases-add_limited
decreases-add_limited l = length l.steps.now
