use Rattle.std.proofs.Common.{length}
use Rattle.blocks.proofs.definitions.+no_indices.Given as goal

abbrev pub decreases-no_indices : goal.decreases-no_indices
decreases-no_indices l = length l.variables.now
