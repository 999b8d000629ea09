use Rattle.std.proofs.Common.{length}
use Rattle.tails.proofs.windows.inner.+is_bound.Given as goal

abbrev pub decreases-is_bound : goal.decreases-is_bound
decreases-is_bound l = length l.binders.now
