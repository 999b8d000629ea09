use Rattle.std.proofs.Common.{length}
use Rattle.tails.proofs.guarded.+paired.Given as goal

abbrev pub decreases-paired : goal.decreases-paired
decreases-paired l = length l.steps.now
