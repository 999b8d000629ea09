use Rattle.std.proofs.Common.{length}
use Rattle.lower.proofs.parties.+are_unknown.Given as goal

abbrev pub decreases-are_unknown : goal.decreases-are_unknown
decreases-are_unknown l = length l.parties.now
