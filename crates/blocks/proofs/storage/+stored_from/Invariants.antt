use Rattle.std.proofs.Common.{length}
use Rattle.blocks.proofs.storage.+stored_from.Given as goal

abbrev pub decreases-stored_from : goal.decreases-stored_from
decreases-stored_from l = length l.nests.now
