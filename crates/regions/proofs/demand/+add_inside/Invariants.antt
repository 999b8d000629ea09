use Rattle.std.proofs.Common.{length}
use Rattle.regions.proofs.demand.+add_inside.Given as goal

abbrev pub decreases-add_inside : goal.decreases-add_inside
decreases-add_inside l = length l.rest.now
