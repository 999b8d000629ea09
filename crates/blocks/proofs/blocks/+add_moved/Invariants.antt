use Rattle.std.proofs.Common.{length}
use Rattle.blocks.proofs.blocks.+add_moved.Given as goal

abbrev pub decreases-add_moved : goal.decreases-add_moved
decreases-add_moved l = length l.forms.now
