use Rattle.std.proofs.Common.{length}
use Rattle.lower.proofs.inner.+inners_of_hosts.Given as goal

abbrev pub decreases-inners_of_hosts : goal.decreases-inners_of_hosts
decreases-inners_of_hosts l = length l.hosts.now
