use Rattle.std.proofs.Common.{ℕ, ◌<◌, get_or}
use Rattle.lin.specs.declared.span.Span1.{Span1}
use Rattle.audit.specs.Stand.{HasExtent}
use Rattle.audit.proofs.output.has_extents.Given as goal

abbrev pub invariant-loop-place : goal.invariant-loop-place
invariant-loop-place l = (k : ℕ) (d : Span1) → k < l.place → HasExtent (get_or l.extents k 0) (get_or l.region k d)
