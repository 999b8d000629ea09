use Rattle.std.proofs.Common.{length}
use Rattle.interpreter.proofs.needs.+indices_after_coordinates.Given as goal

abbrev pub decreases-indices_after_coordinates : goal.decreases-indices_after_coordinates
decreases-indices_after_coordinates l = length l.coordinates.now
