use Rattle.std.proofs.Common.{length}
use Rattle.rules.proofs.nests.symbols.+are_outside.Given as goal

abbrev pub decreases-are_outside : goal.decreases-are_outside
decreases-are_outside l = length l.some.now
