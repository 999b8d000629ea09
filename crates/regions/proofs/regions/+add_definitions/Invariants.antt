use Rattle.std.proofs.Common.{length}
use Rattle.regions.proofs.regions.+add_definitions.Given as goal

abbrev pub decreases-add_definitions : goal.decreases-add_definitions
decreases-add_definitions l = length l.formulas.now
