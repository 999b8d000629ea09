use Rattle.std.proofs.Common.{length}
use Rattle.lower.proofs.grouping.+fetches_from.Given as goal

abbrev pub decreases-fetches_from : goal.decreases-fetches_from
decreases-fetches_from l = length l.roots.now
