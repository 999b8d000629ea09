use Rattle.std.proofs.Common.{length}
use Rattle.blocks.proofs.blocks.+claim_end_of.Given as goal

abbrev pub decreases-claim_end_of : goal.decreases-claim_end_of
decreases-claim_end_of l = length l.cuts.now
