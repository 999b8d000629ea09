use Rattle.std.proofs.Common.{length}
use Rattle.lower.proofs.parties.+with_faults.Given as goal

abbrev pub decreases-with_faults : goal.decreases-with_faults
decreases-with_faults l = length l.inners.now
