use Rattle.std.proofs.Common.{length}
use Rattle.regions.proofs.guarded.+add_copied.Given as goal

abbrev pub decreases-add_copied : goal.decreases-add_copied
decreases-add_copied l = length l.steps.now
