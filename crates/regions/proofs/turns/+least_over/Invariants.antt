use Rattle.std.proofs.Common.{length}
use Rattle.regions.proofs.turns.+least_over.Given as goal

abbrev pub decreases-least_over : goal.decreases-least_over
decreases-least_over l = length l.lower.now
