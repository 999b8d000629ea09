use Rattle.std.proofs.Common.{length}
use Rattle.tails.proofs.windows.slid.+reaches_each.Given as goal

abbrev pub decreases-reaches_each : goal.decreases-reaches_each
decreases-reaches_each g l = length l.forms.now
