use Rattle.std.proofs.Common.{length}
use Rattle.regions.proofs.uses.+some_use_outside.Given as goal

abbrev pub decreases-some_use_outside : goal.decreases-some_use_outside
decreases-some_use_outside l = length l.users.now
