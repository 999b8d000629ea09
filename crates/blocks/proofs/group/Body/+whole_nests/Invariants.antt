use Rattle.std.proofs.Common.{length}
use Rattle.blocks.proofs.group.Body.+whole_nests.Given as goal

abbrev pub decreases-whole_nests : goal.decreases-whole_nests
decreases-whole_nests l = length l.nests.now
