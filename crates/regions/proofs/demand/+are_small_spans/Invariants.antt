use Rattle.std.proofs.Common.{length}
use Rattle.regions.proofs.demand.+are_small_spans.Given as goal

abbrev pub decreases-are_small_spans : goal.decreases-are_small_spans
decreases-are_small_spans l = length l.spans.now
