use Rattle.std.proofs.Common.{length}
use Rattle.tails.proofs.guarded.+unguarded.Given as goal

abbrev pub decreases-unguarded : goal.decreases-unguarded
decreases-unguarded l = length l.steps.now
