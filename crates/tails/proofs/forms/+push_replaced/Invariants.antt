use Rattle.std.proofs.Common.{length}
use Rattle.tails.proofs.forms.+push_replaced.Given as goal

abbrev pub decreases-push_replaced : goal.decreases-push_replaced
decreases-push_replaced l = length l.others.now
