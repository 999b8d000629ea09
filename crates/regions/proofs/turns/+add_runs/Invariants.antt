use Rattle.std.proofs.Common.{length}
use Rattle.regions.proofs.turns.+add_runs.Given as goal

abbrev pub decreases-add_runs : goal.decreases-add_runs
decreases-add_runs l = length l.loops.now
