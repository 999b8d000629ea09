use Rattle.std.proofs.Common.{length}
use Rattle.blocks.proofs.blocks.+part_of.Given as goal

abbrev pub decreases-part_of : goal.decreases-part_of
decreases-part_of l = length l.cuts.now
