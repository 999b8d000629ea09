use Rattle.std.proofs.Common.{length}
use Rattle.sched.proofs.ends.+form_named.Given as goal

abbrev pub decreases-form_named : goal.decreases-form_named
decreases-form_named l = length l.known.now
