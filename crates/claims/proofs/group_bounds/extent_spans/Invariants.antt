use Rattle.std.proofs.Common.{◌≡◌, map, take}
use Rattle.soundness.specs.Binders.View.{grid_span}
use Rattle.claims.proofs.group_bounds.extent_spans.Given as goal

abbrev pub invariant-loop-extent : goal.invariant-loop-extent
invariant-loop-extent l = l.spans.items ≡ map grid_span (take l.extent-index l.extents)
