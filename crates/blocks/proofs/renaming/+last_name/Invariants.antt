use Rattle.std.proofs.Common.{length}
use Rattle.blocks.proofs.renaming.+last_name.Given as goal

abbrev pub decreases-last_name : goal.decreases-last_name
decreases-last_name l = length l.names.now
