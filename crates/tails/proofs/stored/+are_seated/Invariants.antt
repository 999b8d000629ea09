use Rattle.std.proofs.Common.{length}
use Rattle.tails.proofs.stored.+are_seated.Given as goal

abbrev pub decreases-are_seated : goal.decreases-are_seated
decreases-are_seated g l = length l.spans.now
