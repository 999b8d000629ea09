use Rattle.std.proofs.Common.{length}
use Rattle.blocks.proofs.parts.+fold_of.Given as goal

abbrev pub decreases-fold_of : goal.decreases-fold_of
decreases-fold_of l = length l.folds.now
