use Rattle.std.proofs.Common.{length}
use Rattle.regions.proofs.turns.+are_short.Given as goal

abbrev pub decreases-are_short : goal.decreases-are_short
decreases-are_short l = length l.variables.now
