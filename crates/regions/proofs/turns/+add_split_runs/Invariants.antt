use Rattle.std.proofs.Common.{length}
use Rattle.regions.proofs.turns.+add_split_runs.Given as goal

abbrev pub decreases-add_split_runs : goal.decreases-add_split_runs
decreases-add_split_runs l = length l.loops.now
