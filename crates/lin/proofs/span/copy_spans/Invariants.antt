use Rattle.std.proofs.Common.{◌≡◌, take}
use Rattle.lin.proofs.span.copy_spans.Given as goal

abbrev pub invariant-loop-span : goal.invariant-loop-span
invariant-loop-span l = l.copy ≡ take l.span-index l.spans
