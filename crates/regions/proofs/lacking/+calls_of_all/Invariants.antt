use Rattle.std.proofs.Common.{length}
use Rattle.regions.proofs.lacking.+calls_of_all.Given as goal

abbrev pub decreases-calls_of_all : goal.decreases-calls_of_all
decreases-calls_of_all l = length l.formulas.now
