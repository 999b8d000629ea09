use Rattle.std.proofs.Common.{length}
use Rattle.regions.proofs.turns.+add_cuts.Given as goal

abbrev pub decreases-add_cuts : goal.decreases-add_cuts
decreases-add_cuts l = length l.cuts.now
