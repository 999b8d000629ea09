use Rattle.std.proofs.Common.{length}
use Rattle.sched.proofs.placing.+stands_clear.Given as goal

abbrev pub decreases-stands_clear : goal.decreases-stands_clear
decreases-stands_clear l = length l.loops.now
