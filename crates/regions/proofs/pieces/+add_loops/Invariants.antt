use Rattle.std.proofs.Common.{length}
use Rattle.regions.proofs.pieces.+add_loops.Given as goal

abbrev pub decreases-add_loops : goal.decreases-add_loops
decreases-add_loops l = length l.loops.now
