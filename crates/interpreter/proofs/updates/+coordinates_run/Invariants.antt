use Rattle.std.proofs.Common.{length}
use Rattle.interpreter.proofs.updates.+coordinates_run.Given as goal

abbrev pub decreases-coordinates_run : goal.decreases-coordinates_run
decreases-coordinates_run l = length l.coordinates.now
