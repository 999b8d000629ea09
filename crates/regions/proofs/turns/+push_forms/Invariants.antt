use Rattle.std.proofs.Common.{length}
use Rattle.regions.proofs.turns.+push_forms.Given as goal

abbrev pub decreases-push_forms : goal.decreases-push_forms
decreases-push_forms l = length l.others.now
