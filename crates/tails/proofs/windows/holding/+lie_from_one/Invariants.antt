use Rattle.std.proofs.Common.{length}
use Rattle.tails.proofs.windows.holding.+lie_from_one.Given as goal

abbrev pub decreases-lie_from_one : goal.decreases-lie_from_one
decreases-lie_from_one g l = length l.origins.now
