use Rattle.std.proofs.Common.{length}
use Rattle.tails.proofs.windows.held.+is_along.Given as goal

abbrev pub decreases-is_along : goal.decreases-is_along
decreases-is_along g l = length l.region.now
