use Rattle.std.proofs.Common.{length}
use Rattle.blocks.proofs.ends.+variable_reaches.Given as goal

abbrev pub decreases-variable_reaches : goal.decreases-variable_reaches
decreases-variable_reaches l = length l.variables.now
