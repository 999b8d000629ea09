use Rattle.std.proofs.Common.{length}
use Rattle.blocks.proofs.renaming.+places_behind.Given as goal

abbrev pub decreases-places_behind : goal.decreases-places_behind
decreases-places_behind l = length l.places.now
