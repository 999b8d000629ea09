use Rattle.std.proofs.Common.{length}
use Rattle.blocks.proofs.rounded.+are_calling.Given as goal

abbrev pub decreases-are_calling : goal.decreases-are_calling
decreases-are_calling l = length l.formulas.now
