use Rattle.std.proofs.Common.{length}
use Rattle.tails.proofs.guards.+first_last_under.Given as goal

abbrev pub decreases-first_last_under : goal.decreases-first_last_under
decreases-first_last_under l = length l.forms.now
