use Rattle.std.proofs.Common.{length}
use Rattle.tails.proofs.pending.+is_scoped.Given as goal

abbrev pub decreases-is_scoped : goal.decreases-is_scoped
decreases-is_scoped l = length l.steps.now
