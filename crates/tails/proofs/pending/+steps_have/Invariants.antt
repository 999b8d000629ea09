use Rattle.std.proofs.Common.{length}
use Rattle.tails.proofs.pending.+steps_have.Given as goal

abbrev pub decreases-steps_have : goal.decreases-steps_have
decreases-steps_have l = length l.steps.now
