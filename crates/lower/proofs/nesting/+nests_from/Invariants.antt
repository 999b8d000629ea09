use Rattle.std.proofs.Common.{length}
use Rattle.lower.proofs.nesting.+nests_from.Given as goal

abbrev pub decreases-nests_from : goal.decreases-nests_from
decreases-nests_from l = length l.bodies.now
