use Rattle.std.proofs.Common.{◌∙◌, sym}
use Rattle.plan.specs.View.{group_of, plan_of}
use Rattle.audit.proofs.Blocks.{got_group, leaving_at}
use Rattle.audit.proofs.leaving.is_leaving.Goals as goal

pub returns-in-Some-store_in : goal.returns-in-Some-store_in
returns-in-Some-store_in c told =
    let ends = c.in-Some.ensures in
    leaving_at (plan_of c.args.plan.now) c.in-Some.number c.args.line c.group_line.result c.saturating_add-body.result (group_of c.in-Some-get.group.now) c.in-Some-store_in.target
    (got_group c.deref.result.now c.args.plan.now.groups.items c.in-Some.number c.in-Some-get.group.now c.deref.ensures.value (sym c.in-Some-get.ensures.lookup.0) c.in-Some-get.ensures.lookup.1) c.group_line.ensures c.saturating_add-body.ensures c.if-line-body.false
    ends.1 c.in-Some-store_in.ensures (sym c.leaves.ensures ∙ told)
