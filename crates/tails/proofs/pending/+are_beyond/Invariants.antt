use Rattle.std.proofs.Common.{length}
use Rattle.tails.proofs.pending.+are_beyond.Given as goal

abbrev pub decreases-are_beyond : goal.decreases-are_beyond
decreases-are_beyond l = length l.inner.now
