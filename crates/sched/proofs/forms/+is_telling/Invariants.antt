use Rattle.std.proofs.Common.{length}
use Rattle.sched.proofs.forms.+is_telling.Given as goal

abbrev pub decreases-is_telling : goal.decreases-is_telling
decreases-is_telling l = length l.others.now
