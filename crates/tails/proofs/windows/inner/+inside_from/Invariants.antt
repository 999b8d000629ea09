use Rattle.std.proofs.Common.{length}
use Rattle.tails.proofs.windows.inner.+inside_from.Given as goal

abbrev pub decreases-inside_from : goal.decreases-inside_from
decreases-inside_from l = length l.rest.now
