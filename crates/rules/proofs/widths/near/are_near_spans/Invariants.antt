use Rattle.std.proofs.Common.{◌≡◌, take, true}
use Rattle.std.specs.List.{list_all}
use Rattle.soundness.specs.Binders.View.{binders_of}
use Rattle.rules.specs.Widths.Widths.{is_near_span}
use Rattle.rules.proofs.widths.near.are_near_spans.Given as goal

abbrev pub invariant-loop-span : goal.invariant-loop-span
invariant-loop-span g l = list_all (is_near_span (g.B.Bounds.rules l.bounds) (binders_of l.binders)) (take l.span-index l.spans) ≡ true
