use Rattle.std.proofs.Common.{length}
use Rattle.tails.proofs.forms.+push_without.Given as goal

abbrev pub decreases-push_without : goal.decreases-push_without
decreases-push_without l = length l.forms.now
