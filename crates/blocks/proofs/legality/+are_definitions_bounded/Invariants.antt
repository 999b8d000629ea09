use Rattle.std.proofs.Common.{length}
use Rattle.blocks.proofs.legality.+are_definitions_bounded.Given as goal

abbrev pub decreases-are_definitions_bounded : goal.decreases-are_definitions_bounded
decreases-are_definitions_bounded l = length l.formulas.now
