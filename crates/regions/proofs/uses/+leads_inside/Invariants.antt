use Rattle.std.proofs.Common.{length}
use Rattle.regions.proofs.uses.+leads_inside.Given as goal

abbrev pub decreases-leads_inside : goal.decreases-leads_inside
decreases-leads_inside l = length l.steps.now
