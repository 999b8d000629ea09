use Rattle.std.proofs.Common.{length}
use Rattle.regions.proofs.uses.+one_misses.Given as goal

abbrev pub decreases-one_misses : goal.decreases-one_misses
decreases-one_misses l = length l.formulas.now
