use Rattle.std.proofs.Common.{length}
use Rattle.blocks.proofs.blocks.+add_dimensions.Given as goal

abbrev pub decreases-add_dimensions : goal.decreases-add_dimensions
decreases-add_dimensions l = length l.variables.now
