use Rattle.std.proofs.Common.{length}
use Rattle.blocks.proofs.definitions.+left_indices.Given as goal

abbrev pub decreases-left_indices : goal.decreases-left_indices
decreases-left_indices l = length l.variables.now
