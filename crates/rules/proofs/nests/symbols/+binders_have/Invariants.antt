use Rattle.std.proofs.Common.{length}
use Rattle.rules.proofs.nests.symbols.+binders_have.Given as goal

abbrev pub decreases-binders_have : goal.decreases-binders_have
decreases-binders_have l = length l.binders.now
