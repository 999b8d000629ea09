use Rattle.std.proofs.Common.{length}
use Rattle.blocks.proofs.parts.+let_count.Given as goal

abbrev pub decreases-let_count : goal.decreases-let_count
decreases-let_count l = length l.steps.now
