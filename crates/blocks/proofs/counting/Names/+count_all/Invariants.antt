use Rattle.std.proofs.Common.{length}
use Rattle.blocks.proofs.counting.Names.+count_all.Given as goal

abbrev pub decreases-count_all : goal.decreases-count_all
decreases-count_all l = length l.upper.now
