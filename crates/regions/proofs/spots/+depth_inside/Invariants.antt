use Rattle.std.proofs.Common.{length}
use Rattle.regions.proofs.spots.+depth_inside.Given as goal

abbrev pub decreases-depth_inside : goal.decreases-depth_inside
decreases-depth_inside l = length l.steps.now
