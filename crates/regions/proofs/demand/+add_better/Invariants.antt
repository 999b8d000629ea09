use Rattle.std.proofs.Common.{length}
use Rattle.regions.proofs.demand.+add_better.Given as goal

abbrev pub decreases-add_better : goal.decreases-add_better
decreases-add_better l = length l.spans.now
