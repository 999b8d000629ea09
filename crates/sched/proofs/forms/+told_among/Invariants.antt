use Rattle.std.proofs.Common.{length}
use Rattle.sched.proofs.forms.+told_among.Given as goal

abbrev pub decreases-told_among : goal.decreases-told_among
decreases-told_among l = length l.forms.now
