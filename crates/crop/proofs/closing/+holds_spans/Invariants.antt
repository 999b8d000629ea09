use Rattle.std.proofs.Common.{length}
use Rattle.crop.proofs.closing.+holds_spans.Given as goal

abbrev pub decreases-holds_spans : goal.decreases-holds_spans
decreases-holds_spans l = length l.stretches.now
