use Rattle.std.proofs.Common.{length}
use Rattle.regions.proofs.turns.+add_turns.Given as goal

abbrev pub decreases-add_turns : goal.decreases-add_turns
decreases-add_turns l = length l.runs.now
