use Rattle.std.proofs.Common.{length}
use Rattle.regions.proofs.spots.+turn_number.Given as goal

abbrev pub decreases-turn_number : goal.decreases-turn_number
decreases-turn_number l = length l.loops.now
