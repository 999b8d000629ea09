use Rattle.std.proofs.Common.{length}
use Rattle.blocks.proofs.storage.+calls_from.Given as goal

abbrev pub decreases-calls_from : goal.decreases-calls_from
decreases-calls_from l = length l.calls.now
