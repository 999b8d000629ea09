use Rattle.std.proofs.Common.{length}
use Rattle.regions.proofs.demand.+add_told_inside.Given as goal

abbrev pub decreases-add_told_inside : goal.decreases-add_told_inside
decreases-add_told_inside l = length l.rest.now
