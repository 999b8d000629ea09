use Rattle.std.proofs.Common.{length}
use Rattle.sched.proofs.ends.+reach_named.Given as goal

abbrev pub decreases-reach_named : goal.decreases-reach_named
decreases-reach_named l = length l.reaches.now
