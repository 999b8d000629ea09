use Rattle.std.proofs.Common.{length}
use Rattle.regions.proofs.guarded.+add_told.Given as goal

abbrev pub decreases-add_told : goal.decreases-add_told
decreases-add_told l = length l.forms.now
