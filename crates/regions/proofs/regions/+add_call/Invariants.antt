use Rattle.std.proofs.Common.{length}
use Rattle.regions.proofs.regions.+add_call.Given as goal

abbrev pub decreases-add_call : goal.decreases-add_call
decreases-add_call l = length l.at.now
