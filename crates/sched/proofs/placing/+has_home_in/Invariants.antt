use Rattle.std.proofs.Common.{length}
use Rattle.sched.proofs.placing.+has_home_in.Given as goal

abbrev pub decreases-has_home_in : goal.decreases-has_home_in
decreases-has_home_in l = length l.subjects.now
