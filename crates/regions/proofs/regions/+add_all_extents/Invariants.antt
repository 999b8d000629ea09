use Rattle.std.proofs.Common.{length}
use Rattle.regions.proofs.regions.+add_all_extents.Given as goal

abbrev pub decreases-add_all_extents : goal.decreases-add_all_extents
decreases-add_all_extents l = length l.extents.now
