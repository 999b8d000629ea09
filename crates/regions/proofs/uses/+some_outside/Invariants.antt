use Rattle.std.proofs.Common.{length}
use Rattle.regions.proofs.uses.+some_outside.Given as goal

abbrev pub decreases-some_outside : goal.decreases-some_outside
decreases-some_outside l = length l.formulas.now
