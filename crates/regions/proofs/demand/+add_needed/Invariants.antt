use Rattle.std.proofs.Common.{length}
use Rattle.regions.proofs.demand.+add_needed.Given as goal

abbrev pub decreases-add_needed : goal.decreases-add_needed
decreases-add_needed l = length l.extents.now
