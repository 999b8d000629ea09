use Rattle.std.proofs.Common.{length}
use Rattle.regions.proofs.sliding.+add_lets.Given as goal

abbrev pub decreases-add_lets : goal.decreases-add_lets
decreases-add_lets l = length l.steps.now
