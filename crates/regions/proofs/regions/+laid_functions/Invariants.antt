use Rattle.std.proofs.Common.{length}
use Rattle.regions.proofs.regions.+laid_functions.Given as goal

abbrev pub decreases-laid_functions : goal.decreases-laid_functions
decreases-laid_functions l = length l.stored.now
