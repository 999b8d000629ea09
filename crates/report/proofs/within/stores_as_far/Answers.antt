use Rattle.std.proofs.Common.{◌≡◌, ◌<◌, ◌^◌, ℕ, sym, ◌∙◌, rules}
use Rattle.std.proofs.lemmas.Result.{IfOk-weaker}
use Rattle.checked_plan.specs.View.{certificate_checked, plan_checked}
use Rattle.report.specs.declared.subject.Deed.TheVariants.{Store}
use Rattle.report.specs.Costs.{row_stores, up_to}
use Rattle.report.specs.Deeds.{deeds}
use Rattle.report.proofs.Pieces.{stored_is}
use Rattle.report.proofs.Totals.{no_row_as_far, row_as_far}
use Rattle.report.proofs.within.stores_as_far.Goals as goal

pub returns-then-is_stored : goal.returns-then-is_stored
returns-then-is_stored c =
    let x = c.args.checked.now in
    let f = c.args.function.now in
    let m = c.args.enough in
    let small : m < 2 ^ 64 = search rules in
    let stored = stored_is (plan_checked x) c.plan.result.now c.deref.result.now f f c.is_stored.result c.plan.ensures c.deref.ensures.value (λ j. f) c.is_stored.ensures in
    IfOk-weaker c.count_as_far.result (λ (n : ℕ). up_to m n ≡ up_to m (deeds (plan_checked x) (certificate_checked x) Store f))
    (λ (n : ℕ). up_to m n ≡ up_to m (row_stores (plan_checked x) (certificate_checked x) f))
    (λ n h. row_as_far (plan_checked x) (certificate_checked x) f m n small (sym stored ∙ c.if-is_stored.true) h) c.count_as_far.ensures

pub returns-else-is_stored : goal.returns-else-is_stored
returns-else-is_stored c =
    let x = c.args.checked.now in
    let f = c.args.function.now in
    let stored = stored_is (plan_checked x) c.plan.result.now c.deref.result.now f f c.is_stored.result c.plan.ensures c.deref.ensures.value (λ j. f) c.is_stored.ensures in
    no_row_as_far (plan_checked x) (certificate_checked x) f c.args.enough (sym stored ∙ c.if-is_stored.false)
