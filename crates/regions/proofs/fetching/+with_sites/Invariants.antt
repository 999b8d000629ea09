use Rattle.std.proofs.Common.{length}
use Rattle.regions.proofs.fetching.+with_sites.Given as goal

abbrev pub decreases-with_sites : goal.decreases-with_sites
decreases-with_sites l = length l.sites.now
