use Rattle.std.proofs.Common.{length}
use Rattle.interpreter.proofs.joining.+coordinates_join.Given as goal

abbrev pub decreases-coordinates_join : goal.decreases-coordinates_join
decreases-coordinates_join l = length l.coordinates.now
