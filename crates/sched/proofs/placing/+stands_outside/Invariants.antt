use Rattle.std.proofs.Common.{length}
use Rattle.sched.proofs.placing.+stands_outside.Given as goal

abbrev pub decreases-stands_outside : goal.decreases-stands_outside
decreases-stands_outside l = length l.loops.now
