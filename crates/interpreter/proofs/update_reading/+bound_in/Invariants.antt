use Rattle.std.proofs.Common.{length}
use Rattle.interpreter.proofs.update_reading.+bound_in.Given as goal

abbrev pub decreases-bound_in : goal.decreases-bound_in
decreases-bound_in l = length l.coordinates.now
