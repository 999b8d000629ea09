use Rattle.std.proofs.Common.{length}
use Rattle.blocks.proofs.counting.Names.+add_parts.Given as goal

abbrev pub decreases-add_parts : goal.decreases-add_parts
decreases-add_parts l = length l.parts.now
