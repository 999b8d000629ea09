use Rattle.std.proofs.Common.{length}
use Rattle.blocks.proofs.storage.+add_freed.Given as goal

abbrev pub decreases-add_freed : goal.decreases-add_freed
decreases-add_freed l = length l.spans.now
