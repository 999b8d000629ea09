use Rattle.std.proofs.Common.{length}
use Rattle.regions.proofs.turns.+add_range_runs.Given as goal

abbrev pub decreases-add_range_runs : goal.decreases-add_range_runs
decreases-add_range_runs l = length l.ranges.now
