use Rattle.std.proofs.Common.{length}
use Rattle.lower.proofs.parties.+roots_of.Given as goal

abbrev pub decreases-roots_of : goal.decreases-roots_of
decreases-roots_of l = length l.stored.now
