use Rattle.std.proofs.Common.{length}
use Rattle.tails.proofs.regions.+all_spelled_out.Given as goal

abbrev pub decreases-all_spelled_out : goal.decreases-all_spelled_out
decreases-all_spelled_out l = length l.spans.now
