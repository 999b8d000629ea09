use Rattle.std.proofs.Common.{length}
use Rattle.regions.proofs.turns.+add_nests.Given as goal

abbrev pub decreases-add_nests : goal.decreases-add_nests
decreases-add_nests l = length l.bodies.now
