use Rattle.std.proofs.Common.{length}
use Rattle.sched.proofs.placing.+stands_open.Given as goal

abbrev pub decreases-stands_open : goal.decreases-stands_open
decreases-stands_open l = length l.loops.now
