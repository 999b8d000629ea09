use Rattle.std.proofs.Common.{length}
use Rattle.blocks.proofs.definitions.+update_formulas.Given as goal

abbrev pub decreases-update_formulas : goal.decreases-update_formulas
decreases-update_formulas l = length l.updates.now
