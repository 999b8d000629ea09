use Rattle.std.proofs.Common.{length}
use Rattle.regions.proofs.sliding.+spare_from.Given as goal

abbrev pub decreases-spare_from : goal.decreases-spare_from
decreases-spare_from l = length l.forms.now
