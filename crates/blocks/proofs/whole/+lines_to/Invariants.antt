use Rattle.std.proofs.Common.{length}
use Rattle.blocks.proofs.whole.+lines_to.Given as goal

abbrev pub decreases-lines_to : goal.decreases-lines_to
decreases-lines_to l = length l.steps.now
