use Rattle.std.proofs.Common.{◌∙◌, ap}
use Rattle.algo.specs.View.{algorithm_of}
use Rattle.lin.proofs.Limits.{if_ok}
use Rattle.soundness.specs.Outline.View.{plan_in, certificate_in, number_in}
use Rattle.soundness.specs.Binders.View.{binders_of}
use Rattle.rules.specs.Bounding.Seats.{is_seated_in}
use Rattle.rules.proofs.Limits.{seated_same}
use Rattle.rules.proofs.bounding.plan_bounds.PlanBounds.is_seated_kept.Goals as goal

pub returns : goal.returns
returns c =
    let b = c.args.self.now in
    let same = seated_same (algorithm_of b.algo.now) (plan_in b.outlined.now) (certificate_in b.outlined.now) (number_in b.outlined.now) (binders_of c.args.binders.now) c.args.span.now c.args.places.now in
    if_ok c.is_seated.result _ _ (λ yes e. e ∙ ap (λ s. is_seated_in s c.args.span.now c.args.places.now) (c.turn_to.ensures ∙ c.in_ok-scope_of.ensures) ∙ same) c.is_seated.ensures
