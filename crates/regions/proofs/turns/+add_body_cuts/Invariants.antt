use Rattle.std.proofs.Common.{length}
use Rattle.regions.proofs.turns.+add_body_cuts.Given as goal

abbrev pub decreases-add_body_cuts : goal.decreases-add_body_cuts
decreases-add_body_cuts l = length l.variables.now
