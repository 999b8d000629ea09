use Rattle.std.proofs.Common.{length}
use Rattle.interpreter.proofs.coding.+stands_at.Given as goal

abbrev pub decreases-stands_at : goal.decreases-stands_at
decreases-stands_at l = length l.coordinates.now
