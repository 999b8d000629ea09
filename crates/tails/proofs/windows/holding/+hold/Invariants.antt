use Rattle.std.proofs.Common.{length}
use Rattle.tails.proofs.windows.holding.+hold.Given as goal

abbrev pub decreases-hold : goal.decreases-hold
decreases-hold g l = length l.spans.now
