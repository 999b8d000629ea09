use Rattle.std.proofs.Common.{length}
use Rattle.blocks.proofs.renaming.+renamed_behind.Given as goal

abbrev pub decreases-renamed_behind : goal.decreases-renamed_behind
decreases-renamed_behind l = length l.forms.now
