use Rattle.std.proofs.Common.{length}
use Rattle.crop.proofs.lookup.+variable_origin.Given as goal

abbrev pub decreases-variable_origin : goal.decreases-variable_origin
decreases-variable_origin l = length l.variables.now
