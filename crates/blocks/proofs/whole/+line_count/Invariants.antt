use Rattle.std.proofs.Common.{length}
use Rattle.blocks.proofs.whole.+line_count.Given as goal

abbrev pub decreases-line_count : goal.decreases-line_count
decreases-line_count l = length l.steps.now
