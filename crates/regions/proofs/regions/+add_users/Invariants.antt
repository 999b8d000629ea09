use Rattle.std.proofs.Common.{length}
use Rattle.regions.proofs.regions.+add_users.Given as goal

abbrev pub decreases-add_users : goal.decreases-add_users
decreases-add_users l = length l.later.now
