use Rattle.std.proofs.Common.{◌++◌, ap, sym, ◌∙◌}
use Rattle.plan.specs.View.{plan_of}
use Rattle.plan.specs.Lists.{list_groups}
use Rattle.nest.specs.Writing.{groups_text, head_text}
use Rattle.nest.proofs.Whole.{plan_written}
use Rattle.nest.proofs.writing.write.Goals as goal

pub returns : goal.returns
returns c =
    c.in_ok-put_groups.ensures
    ∙ ap (λ t. t ++ groups_text 0 (list_groups c.deref.result.now)) (c.in_ok-put_head.ensures ∙ ap (λ t. t ++ head_text (plan_of c.args.plan.now)) c.new-text.ensures.bytes)
    ∙ ap (λ g. head_text (plan_of c.args.plan.now) ++ groups_text 0 (list_groups g)) c.deref.ensures.value
    ∙ sym (plan_written (plan_of c.args.plan.now))
