use Rattle.std.proofs.Common.{length}
use Rattle.tails.proofs.choosing.+lower_factor.Given as goal

abbrev pub decreases-lower_factor : goal.decreases-lower_factor
decreases-lower_factor l = length l.spans.now
