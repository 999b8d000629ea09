use Rattle.std.proofs.Common.{length}
use Rattle.blocks.proofs.blocks.+add_stepped.Given as goal

abbrev pub decreases-add_stepped : goal.decreases-add_stepped
decreases-add_stepped l = length l.forms.now
