use Rattle.std.proofs.Common.{length}
use Rattle.lower.proofs.inner.+are_unfolded_before.Given as goal

abbrev pub decreases-are_unfolded_before : goal.decreases-are_unfolded_before
decreases-are_unfolded_before l = length l.functions.now
