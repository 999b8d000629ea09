use Rattle.std.proofs.Common.{length}
use Rattle.tails.proofs.turns.+taken.Given as goal

abbrev pub decreases-taken : goal.decreases-taken
decreases-taken l = length l.spans.now
