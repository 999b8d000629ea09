use Rattle.std.proofs.Common.{length}
use Rattle.blocks.proofs.rounded.+has_call.Given as goal

abbrev pub decreases-has_call : goal.decreases-has_call
decreases-has_call l = length l.calls.now
