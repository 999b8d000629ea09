use Rattle.std.proofs.Common.{length}
use Rattle.blocks.proofs.storage.+called_from.Given as goal

abbrev pub decreases-called_from : goal.decreases-called_from
decreases-called_from l = length l.lower.now
