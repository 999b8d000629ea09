use Rattle.std.proofs.Common.{length}
use Rattle.tails.proofs.guards.+bounded.Given as goal

abbrev pub decreases-bounded : goal.decreases-bounded
decreases-bounded l = length l.spans.now
