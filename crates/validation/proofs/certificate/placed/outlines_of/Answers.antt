use Rattle.std.proofs.Common.{◌∙◌, ap, sym, List, ◌++◌, [], ◌∷◌, map, take}
use Rattle.std.proofs.lemmas.List.{map-append}
use Rattle.plan.specs.Plan.{Group}
use Rattle.plan.specs.View.{plan_of}
use Rattle.soundness.specs.Outline.View.{group_in}
use Rattle.validation.specs.declared.certificate.counted.CountedOutline.{CountedOutline}
use Rattle.validation.specs.Certificate.Counted.{group_counted}
use Rattle.validation.proofs.Taken.{take_get}
use Rattle.validation.proofs.certificate.placed.outlines_of.Goals as goal

pub loop-number-preserved : goal.loop-number-preserved
loop-number-preserved c =
    let gs = (plan_of c.args.plan.now).groups in
    let o = c.in_ok-outlined.outlined in
    let x = c.of-counted.result in
    ap (λ (xs : List CountedOutline). map group_counted xs) c.in_ok-push.ensures.items ∙ map-append group_counted c.loop-number.all.items (x ∷ [])
    ∙ ap (λ (hs : List Group). hs ++ group_counted x ∷ []) c.loop-number.invariant
    ∙ ap (λ (g : Group). take c.loop-number.number gs ++ g ∷ []) (ap group_in c.of-counted.ensures)
    ∙ sym (take_get gs c.loop-number.number (group_in o) c.in_ok-outlined.ensures.group)
