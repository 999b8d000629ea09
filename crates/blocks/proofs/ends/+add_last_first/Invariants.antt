use Rattle.std.proofs.Common.{length}
use Rattle.blocks.proofs.ends.+add_last_first.Given as goal

abbrev pub decreases-add_last_first : goal.decreases-add_last_first
decreases-add_last_first l = length l.forms.now
