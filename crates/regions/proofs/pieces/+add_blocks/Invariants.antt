use Rattle.std.proofs.Common.{length}
use Rattle.regions.proofs.pieces.+add_blocks.Given as goal

abbrev pub decreases-add_blocks : goal.decreases-add_blocks
decreases-add_blocks l = length l.forms.now
