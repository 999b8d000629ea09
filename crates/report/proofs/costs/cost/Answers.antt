use Rattle.std.proofs.Common.{sym, ap, ◌∙◌}
use Rattle.checked_plan.specs.View.{certificate_checked, plan_checked}
use Rattle.report.specs.Costs.{row}
use Rattle.report.proofs.Pieces.{stored_is}
use Rattle.report.proofs.Rows.{Entry, one_row, no_row}
use Rattle.report.proofs.costs.cost.Goals as goal
use Rattle.report.proofs.costs.cost.Goals.{then-is_stored+in_ok-cost_of+in_ok-push, else-is_stored}

pub loop-number-preserved : goal.loop-number-preserved
loop-number-preserved c =
    let x = c.args.checked.now in
    let p = plan_checked x in
    let q = certificate_checked x in
    let entries = c.funcs-all.result.now.entries in
    let k = c.loop-number.number in
    let e : Entry = (c.in-Some.name.now, c.in-Some.field-0-1.now) in
    let at = sym c.in-Some.ensures.entry in
    let stored = stored_is p c.plan.result.now c.deref.result.now c.as_str.result.now _ c.is_stored.result c.plan.ensures c.deref.ensures.value c.as_str.ensures.value c.is_stored.ensures in
    elim c.if-is_stored.branch [
      | then-is_stored+in_ok-cost_of+in_ok-push w ↦
          one_row p q entries k e c.loop-number.functions.items c.if-is_stored.functions.items _ _ at (sym stored ∙ w.if-is_stored.true)
          (w.in_ok-cost_of.ensures ∙ ap (row p q) w.as_str-then-is_stored.ensures.value) (ap (λ v. v.items) w.functions-is ∙ w.in_ok-push.ensures.items) c.loop-number.invariant
      | else-is_stored w ↦
          no_row p q entries k e c.loop-number.functions.items c.if-is_stored.functions.items _ at (sym stored ∙ w.if-is_stored.false) (ap (λ v. v.items) w.functions-is) c.loop-number.invariant
    ]
