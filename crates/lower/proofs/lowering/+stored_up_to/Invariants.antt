use Rattle.std.proofs.Common.{length}
use Rattle.lower.proofs.lowering.+stored_up_to.Given as goal

abbrev pub decreases-stored_up_to : goal.decreases-stored_up_to
decreases-stored_up_to l = length l.subjects.now
