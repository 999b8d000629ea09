use Rattle.std.proofs.Common.{length}
use Rattle.lower.proofs.inner.+inners_in.Given as goal

abbrev pub decreases-inners_in : goal.decreases-inners_in
decreases-inners_in l = length l.nests.now
