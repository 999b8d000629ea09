use Rattle.std.proofs.Common.{length}
use Rattle.blocks.proofs.ends.+add_half_reaches.Given as goal

abbrev pub decreases-add_half_reaches : goal.decreases-add_half_reaches
decreases-add_half_reaches l = length l.cuts.now
