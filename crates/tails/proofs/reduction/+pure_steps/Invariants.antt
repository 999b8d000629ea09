use Rattle.std.proofs.Common.{length}
use Rattle.tails.proofs.reduction.+pure_steps.Given as goal

abbrev pub decreases-pure_steps : goal.decreases-pure_steps
decreases-pure_steps l = length l.steps.now
