use Rattle.std.proofs.Common.{length}
use Rattle.sched.proofs.scopes.+add_coordinates.Given as goal

abbrev pub decreases-add_coordinates : goal.decreases-add_coordinates
decreases-add_coordinates l = length l.at.now
