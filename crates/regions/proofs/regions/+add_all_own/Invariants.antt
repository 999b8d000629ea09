use Rattle.std.proofs.Common.{length}
use Rattle.regions.proofs.regions.+add_all_own.Given as goal

abbrev pub decreases-add_all_own : goal.decreases-add_all_own
decreases-add_all_own l = length l.formulas.now
