use Rattle.std.proofs.Common.{length}
use Rattle.regions.proofs.uses.+stored_named.Given as goal

abbrev pub decreases-stored_named : goal.decreases-stored_named
decreases-stored_named l = length l.stored.now
