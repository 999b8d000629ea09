use Rattle.std.proofs.Common.{length}
use Rattle.blocks.proofs.storage.+places_from.Given as goal

abbrev pub decreases-places_from : goal.decreases-places_from
decreases-places_from l = length l.lower.now
