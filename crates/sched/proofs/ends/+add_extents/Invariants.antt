use Rattle.std.proofs.Common.{length}
use Rattle.sched.proofs.ends.+add_extents.Given as goal

abbrev pub decreases-add_extents : goal.decreases-add_extents
decreases-add_extents l = length l.spans.now
