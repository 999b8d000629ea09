use Rattle.std.proofs.Common.{length}
use Rattle.blocks.proofs.parts.+lets.Given as goal

abbrev pub decreases-lets : goal.decreases-lets
decreases-lets l = length l.steps.now
