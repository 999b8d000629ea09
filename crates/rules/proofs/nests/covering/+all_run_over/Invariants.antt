use Rattle.std.proofs.Common.{length}
use Rattle.rules.proofs.nests.covering.+all_run_over.Given as goal

abbrev pub decreases-all_run_over : goal.decreases-all_run_over
decreases-all_run_over g l = length l.loops.now
