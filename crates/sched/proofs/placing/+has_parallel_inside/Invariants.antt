use Rattle.std.proofs.Common.{length}
use Rattle.sched.proofs.placing.+has_parallel_inside.Given as goal

abbrev pub decreases-has_parallel_inside : goal.decreases-has_parallel_inside
decreases-has_parallel_inside l = length l.loops.now
