use Rattle.std.proofs.Common.{length}
use Rattle.regions.proofs.regions.+formulas_call.Given as goal

abbrev pub decreases-formulas_call : goal.decreases-formulas_call
decreases-formulas_call l = length l.formulas.now
