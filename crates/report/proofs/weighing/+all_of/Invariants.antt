use Rattle.std.proofs.Common.{length}
use Rattle.report.proofs.weighing.+all_of.Given as goal

abbrev pub decreases-all_of : goal.decreases-all_of
decreases-all_of l = length l.weighings.now
