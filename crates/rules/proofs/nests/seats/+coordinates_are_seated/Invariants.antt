use Rattle.std.proofs.Common.{length}
use Rattle.rules.proofs.nests.seats.+coordinates_are_seated.Given as goal

abbrev pub decreases-coordinates_are_seated : goal.decreases-coordinates_are_seated
decreases-coordinates_are_seated g l = length l.coordinates.now
