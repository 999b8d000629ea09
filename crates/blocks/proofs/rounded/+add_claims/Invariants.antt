use Rattle.std.proofs.Common.{length}
use Rattle.blocks.proofs.rounded.+add_claims.Given as goal

abbrev pub decreases-add_claims : goal.decreases-add_claims
decreases-add_claims l = length l.spans.now
