use Rattle.std.proofs.Common.{length}
use Rattle.rules.proofs.nests.folds.+loop_holds.Given as goal

abbrev pub decreases-loop_holds : goal.decreases-loop_holds
decreases-loop_holds g l = length l.loops.now
