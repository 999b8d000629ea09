use Rattle.std.proofs.Common.{length}
use Rattle.validation.proofs.groups.lanes.+any_goes_by.Given as goal

abbrev pub decreases-any_goes_by : goal.decreases-any_goes_by
decreases-any_goes_by l = length l.coordinates.now
