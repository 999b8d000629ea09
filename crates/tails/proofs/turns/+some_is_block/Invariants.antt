use Rattle.std.proofs.Common.{length}
use Rattle.tails.proofs.turns.+some_is_block.Given as goal

abbrev pub decreases-some_is_block : goal.decreases-some_is_block
decreases-some_is_block l = length l.upper.now
