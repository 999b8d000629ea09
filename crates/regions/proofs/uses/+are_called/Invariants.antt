use Rattle.std.proofs.Common.{length}
use Rattle.regions.proofs.uses.+are_called.Given as goal

abbrev pub decreases-are_called : goal.decreases-are_called
decreases-are_called l = length l.names.now
