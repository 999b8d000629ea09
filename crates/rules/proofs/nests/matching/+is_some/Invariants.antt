use Rattle.std.proofs.Common.{length}
use Rattle.rules.proofs.nests.matching.+is_some.Given as goal

abbrev pub decreases-is_some : goal.decreases-is_some
decreases-is_some l = length l.coordinates.now
