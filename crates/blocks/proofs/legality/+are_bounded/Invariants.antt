use Rattle.std.proofs.Common.{length}
use Rattle.blocks.proofs.legality.+are_bounded.Given as goal

abbrev pub decreases-are_bounded : goal.decreases-are_bounded
decreases-are_bounded l = length l.calls.now
