use Rattle.std.proofs.Common.{length}
use Rattle.regions.proofs.turns.+are_bounded.Given as goal

abbrev pub decreases-are_bounded : goal.decreases-are_bounded
decreases-are_bounded l = length l.spans.now
