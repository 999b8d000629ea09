use Rattle.std.proofs.Common.{length}
use Rattle.interpreter.proofs.reading.+number_bound.Given as goal

abbrev pub decreases-number_bound : goal.decreases-number_bound
decreases-number_bound l = length l.coordinates.now
