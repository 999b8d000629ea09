use Rattle.std.proofs.Common.{length}
use Rattle.tails.proofs.regions.+spelled_out.Given as goal

abbrev pub decreases-spelled_out : goal.decreases-spelled_out
decreases-spelled_out l = length l.binders.now
