use Rattle.std.proofs.Common.{◌++◌, ap, sym, ◌∙◌, append_assoc, take}
use Rattle.std.specs.Prelude.{string_bytes}
use Rattle.plan.specs.View.{group_of}
use Rattle.plan.specs.Lists.{list_groups}
use Rattle.nest.specs.Writing.{groups_text, whole_group_text}
use Rattle.nest.proofs.Whole.{more_groups}
use Rattle.nest.proofs.writing.put_groups.Goals as goal

pub loop-number-preserved : goal.loop-number-preserved
loop-number-preserved c =
    c.in_ok-put_whole_group.ensures
    ∙ ap (λ w. w ++ whole_group_text c.loop-number.number (group_of c.index-groups-number.result)) c.loop-number.invariant
    ∙ append_assoc (string_bytes c.args.text.now) (groups_text 0 (list_groups (take c.loop-number.number c.args.groups.now))) (whole_group_text c.loop-number.number (group_of c.index-groups-number.result))
    ∙ ap (λ w. string_bytes c.args.text.now ++ w) (sym (more_groups c.args.groups.now c.loop-number.number c.index-groups-number.result c.loop-number-test.true c.index-groups-number.is))
