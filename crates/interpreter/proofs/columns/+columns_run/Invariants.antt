use Rattle.std.proofs.Common.{length}
use Rattle.interpreter.proofs.columns.+columns_run.Given as goal

abbrev pub decreases-columns_run : goal.decreases-columns_run
decreases-columns_run g l = length l.at.now
