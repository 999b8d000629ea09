use Rattle.std.proofs.Common.{length}
use Rattle.tails.proofs.windows.window.+is_short_from.Given as goal

abbrev pub decreases-is_short_from : goal.decreases-is_short_from
decreases-is_short_from g l = length l.forms.now
