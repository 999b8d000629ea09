use Rattle.std.proofs.Common.{length}
use Rattle.regions.proofs.spots.+is_over_grid.Given as goal

abbrev pub decreases-is_over_grid : goal.decreases-is_over_grid
decreases-is_over_grid l = length l.loops.now
