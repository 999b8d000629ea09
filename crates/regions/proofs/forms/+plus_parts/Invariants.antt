use Rattle.std.proofs.Common.{length}
use Rattle.regions.proofs.forms.+plus_parts.Given as goal

abbrev pub decreases-plus_parts : goal.decreases-plus_parts
decreases-plus_parts l = length l.terms.now
