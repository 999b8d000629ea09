use Rattle.std.proofs.Common.{length}
use Rattle.tails.proofs.reduction.+reducing.Given as goal

abbrev pub decreases-reducing : goal.decreases-reducing
decreases-reducing l = length l.steps.now
