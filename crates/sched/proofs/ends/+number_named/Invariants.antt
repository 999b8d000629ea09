use Rattle.std.proofs.Common.{length}
use Rattle.sched.proofs.ends.+number_named.Given as goal

abbrev pub decreases-number_named : goal.decreases-number_named
decreases-number_named l = length l.numbers.now
