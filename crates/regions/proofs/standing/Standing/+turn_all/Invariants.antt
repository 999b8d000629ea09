use Rattle.std.proofs.Common.{length}
use Rattle.regions.proofs.standing.Standing.+turn_all.Given as goal

abbrev pub decreases-turn_all : goal.decreases-turn_all
decreases-turn_all l = length l.runs.now
