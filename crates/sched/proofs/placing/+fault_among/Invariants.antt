use Rattle.std.proofs.Common.{length}
use Rattle.sched.proofs.placing.+fault_among.Given as goal

abbrev pub decreases-fault_among : goal.decreases-fault_among
decreases-fault_among l = length l.some.now
