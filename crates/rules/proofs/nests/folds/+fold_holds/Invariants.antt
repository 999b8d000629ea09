use Rattle.std.proofs.Common.{length}
use Rattle.rules.proofs.nests.folds.+fold_holds.Given as goal

abbrev pub decreases-fold_holds : goal.decreases-fold_holds
decreases-fold_holds g l = length l.region.now
