use Rattle.std.proofs.Common.{length}
use Rattle.interpreter.proofs.shifting.+coordinates_rise.Given as goal

abbrev pub decreases-coordinates_rise : goal.decreases-coordinates_rise
decreases-coordinates_rise l = length l.coordinates.now
