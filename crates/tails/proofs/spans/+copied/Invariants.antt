use Rattle.std.proofs.Common.{length}
use Rattle.tails.proofs.spans.+copied.Given as goal

abbrev pub decreases-copied : goal.decreases-copied
decreases-copied l = length l.spans.now
