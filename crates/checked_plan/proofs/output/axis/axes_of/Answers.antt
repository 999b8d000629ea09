use Rattle.std.proofs.Common.{◌∙◌, ◌++◌, ◌∷◌, [], ap, sym, take, List}
use Rattle.checked_plan.specs.declared.output.axis.Axis.{Axis}
use Rattle.checked_plan.specs.Output.Axes.{axes_of}
use Rattle.checked_plan.proofs.Spans.{one_more}
use Rattle.checked_plan.proofs.output.axis.axes_of.Goals as goal

pub loop-span-preserved : goal.loop-span-preserved
loop-span-preserved c =
    c.in_ok-push.ensures.items ∙ ap (λ (xs : List Axis). xs ++ c.axis_of.result ∷ []) c.loop-span.invariant
    ∙ ap (λ (y : Axis). axes_of (take c.loop-span.span-index c.args.region.now) ++ y ∷ []) c.axis_of.ensures
    ∙ sym (one_more c.args.region.now c.loop-span.span-index c.span-item.result c.span-item.is c.loop-span-test.true)
