use Rattle.std.proofs.Common.{length}
use Rattle.regions.proofs.turns.+add_further.Given as goal

abbrev pub decreases-add_further : goal.decreases-add_further
decreases-add_further l = length l.counted.now
