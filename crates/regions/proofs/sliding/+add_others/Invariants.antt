use Rattle.std.proofs.Common.{length}
use Rattle.regions.proofs.sliding.+add_others.Given as goal

abbrev pub decreases-add_others : goal.decreases-add_others
decreases-add_others l = length l.forms.now
