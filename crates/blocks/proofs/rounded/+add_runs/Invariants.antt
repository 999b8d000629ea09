use Rattle.std.proofs.Common.{length}
use Rattle.blocks.proofs.rounded.+add_runs.Given as goal

abbrev pub decreases-add_runs : goal.decreases-add_runs
decreases-add_runs l = length l.spans.now
