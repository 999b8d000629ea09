use Rattle.std.proofs.Common.{length}
use Rattle.regions.proofs.spots.+turned_count.Given as goal

abbrev pub decreases-turned_count : goal.decreases-turned_count
decreases-turned_count l = length l.loops.now
