use Rattle.std.proofs.Common.{length}
use Rattle.regions.proofs.nests.+add_missing.Given as goal

abbrev pub decreases-add_missing : goal.decreases-add_missing
decreases-add_missing l = length l.at.now
