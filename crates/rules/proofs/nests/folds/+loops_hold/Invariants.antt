use Rattle.std.proofs.Common.{length}
use Rattle.rules.proofs.nests.folds.+loops_hold.Given as goal

abbrev pub decreases-loops_hold : goal.decreases-loops_hold
decreases-loops_hold g l = length l.coordinates.now
