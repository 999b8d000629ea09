use Rattle.std.proofs.Common.{length}
use Rattle.regions.proofs.demand.+are_inside.Given as goal

abbrev pub decreases-are_inside : goal.decreases-are_inside
decreases-are_inside l = length l.spans.now
