use Rattle.std.proofs.Common.{length}
use Rattle.tails.proofs.forms.+push_expanded.Given as goal

abbrev pub decreases-push_expanded : goal.decreases-push_expanded
decreases-push_expanded l = length l.forms.now
