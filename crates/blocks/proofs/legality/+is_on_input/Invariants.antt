use Rattle.std.proofs.Common.{length}
use Rattle.blocks.proofs.legality.+is_on_input.Given as goal

abbrev pub decreases-is_on_input : goal.decreases-is_on_input
decreases-is_on_input l = length l.at.now
