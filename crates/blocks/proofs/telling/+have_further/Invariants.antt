use Rattle.std.proofs.Common.{length}
use Rattle.blocks.proofs.telling.+have_further.Given as goal

abbrev pub decreases-have_further : goal.decreases-have_further
decreases-have_further l = length l.lower.now
