use Rattle.std.proofs.Common.{length}
use Rattle.rules.proofs.nests.covering.+others_run_over.Given as goal

abbrev pub decreases-others_run_over : goal.decreases-others_run_over
decreases-others_run_over g l = length l.loops.now
