use Rattle.std.proofs.Common.{◌∙◌, ap}
use Rattle.lin.specs.Regions.{span_inside}
use Rattle.lin.proofs.Limits.{if_ok}
use Rattle.rules.proofs.bounding.plan_bounds.PlanBounds.is_within_kept.Goals as goal

pub returns : goal.returns
returns c = if_ok c.is_inside.result _ _ (λ yes e. e ∙ ap (λ s. span_inside s c.args.inner.now c.args.outer.now) (c.turn_to.ensures ∙ c.in_ok-scope_of.ensures)) c.is_inside.ensures.shown
