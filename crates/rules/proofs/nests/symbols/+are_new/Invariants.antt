use Rattle.std.proofs.Common.{length}
use Rattle.rules.proofs.nests.symbols.+are_new.Given as goal

abbrev pub decreases-are_new : goal.decreases-are_new
decreases-are_new l = length l.loops.now
