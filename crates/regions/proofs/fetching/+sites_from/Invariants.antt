use Rattle.std.proofs.Common.{length}
use Rattle.regions.proofs.fetching.+sites_from.Given as goal

abbrev pub decreases-sites_from : goal.decreases-sites_from
decreases-sites_from l = length l.nests.now
