use Rattle.std.proofs.Common.{length}
use Rattle.lower.proofs.lowering.+groups_from.Given as goal

abbrev pub decreases-groups_from : goal.decreases-groups_from
decreases-groups_from l = length l.parties.now
