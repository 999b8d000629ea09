use Rattle.std.proofs.Common.{length}
use Rattle.blocks.proofs.ends.+add_all_counted.Given as goal

abbrev pub decreases-add_all_counted : goal.decreases-add_all_counted
decreases-add_all_counted l = length l.variables.now
