use Rattle.std.proofs.Common.{length}
use Rattle.regions.proofs.fetching.+add_spans.Given as goal

abbrev pub decreases-add_spans : goal.decreases-add_spans
decreases-add_spans l = length l.at.now
