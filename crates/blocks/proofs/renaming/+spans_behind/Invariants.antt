use Rattle.std.proofs.Common.{length}
use Rattle.blocks.proofs.renaming.+spans_behind.Given as goal

abbrev pub decreases-spans_behind : goal.decreases-spans_behind
decreases-spans_behind l = length l.spans.now
