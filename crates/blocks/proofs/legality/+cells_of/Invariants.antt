use Rattle.std.proofs.Common.{length}
use Rattle.blocks.proofs.legality.+cells_of.Given as goal

abbrev pub decreases-cells_of : goal.decreases-cells_of
decreases-cells_of l = length l.region.now
