use Rattle.std.proofs.Common.{length}
use Rattle.lower.proofs.parties.+parties_from.Given as goal

abbrev pub decreases-parties_from : goal.decreases-parties_from
decreases-parties_from l = length l.roots.now
