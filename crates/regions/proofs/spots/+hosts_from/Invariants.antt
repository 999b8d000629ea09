use Rattle.std.proofs.Common.{length}
use Rattle.regions.proofs.spots.+hosts_from.Given as goal

abbrev pub decreases-hosts_from : goal.decreases-hosts_from
decreases-hosts_from l = length l.inners.now
