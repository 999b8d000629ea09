use Rattle.std.proofs.Common.{length}
use Rattle.rules.proofs.nests.matching.+is_turned.Given as goal

abbrev pub decreases-is_turned : goal.decreases-is_turned
decreases-is_turned l = length l.loops.now
