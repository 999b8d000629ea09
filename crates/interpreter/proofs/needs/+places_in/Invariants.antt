use Rattle.std.proofs.Common.{length}
use Rattle.interpreter.proofs.needs.+places_in.Given as goal

abbrev pub decreases-places_in : goal.decreases-places_in
decreases-places_in l = length l.places.now
