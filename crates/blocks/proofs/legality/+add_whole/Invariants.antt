use Rattle.std.proofs.Common.{length}
use Rattle.blocks.proofs.legality.+add_whole.Given as goal

abbrev pub decreases-add_whole : goal.decreases-add_whole
decreases-add_whole l = length l.extents.now
