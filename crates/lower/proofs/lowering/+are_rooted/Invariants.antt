use Rattle.std.proofs.Common.{length}
use Rattle.lower.proofs.lowering.+are_rooted.Given as goal

abbrev pub decreases-are_rooted : goal.decreases-are_rooted
decreases-are_rooted l = length l.stored.now
