use Rattle.std.proofs.Common.{length}
use Rattle.lower.proofs.parties.+add_sites.Given as goal

abbrev pub decreases-add_sites : goal.decreases-add_sites
decreases-add_sites l = length l.sites.now
