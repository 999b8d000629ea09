use Rattle.std.proofs.Common.{length}
use Rattle.regions.proofs.sliding.+slid_from.Given as goal

abbrev pub decreases-slid_from : goal.decreases-slid_from
decreases-slid_from l = length l.spans.now
