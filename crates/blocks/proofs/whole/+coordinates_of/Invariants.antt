use Rattle.std.proofs.Common.{length}
use Rattle.blocks.proofs.whole.+coordinates_of.Given as goal

abbrev pub decreases-coordinates_of : goal.decreases-coordinates_of
decreases-coordinates_of l = length l.forms.now
