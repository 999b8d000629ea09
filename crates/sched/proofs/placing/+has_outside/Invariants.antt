use Rattle.std.proofs.Common.{length}
use Rattle.sched.proofs.placing.+has_outside.Given as goal

abbrev pub decreases-has_outside : goal.decreases-has_outside
decreases-has_outside l = length l.subjects.now
