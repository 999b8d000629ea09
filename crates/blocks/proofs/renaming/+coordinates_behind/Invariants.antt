use Rattle.std.proofs.Common.{length}
use Rattle.blocks.proofs.renaming.+coordinates_behind.Given as goal

abbrev pub decreases-coordinates_behind : goal.decreases-coordinates_behind
decreases-coordinates_behind l = length l.at.now
