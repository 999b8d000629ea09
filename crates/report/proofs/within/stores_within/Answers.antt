use Rattle.std.proofs.Common.{◌+◌, ◌-◌, ◌<◌, ◌^◌, ℕ, List, sym, ap, ◌∙◌, arith}
use Rattle.meaning.specs.Algorithm.{Algorithm}
use Rattle.checked_plan.specs.View.{algorithm_checked, certificate_checked, plan_checked}
use Rattle.report.specs.Costs.{row_stores, up_to}
use Rattle.report.proofs.Rows.{Entry}
use Rattle.report.proofs.Totals.{greatest_within, stores_begun, stores_inside, stores_left, stores_over, whole_stores}
use Rattle.report.proofs.within.stores_within.Goals as goal

pub returns-then-most-eq18446744073709551615 : goal.returns-then-most-eq18446744073709551615
returns-then-most-eq18446744073709551615 c =
    let x = c.args.checked.now in
    greatest_within (whole_stores (algorithm_checked x) (plan_checked x) (certificate_checked x)) c.args.most (omega (arith, c.if-most-eq18446744073709551615.true))

pub loop-number-init : goal.loop-number-init
loop-number-init c =
    let x = c.args.checked.now in
    stores_begun (algorithm_checked x) (plan_checked x) (certificate_checked x) c.funcs-all.result.now.entries c.args.most (c.funcs-all.ensures ∙ ap (λ (a : Algorithm). a.functions) c.algo.ensures)

pub returns-then-left-more : goal.returns-then-left-more
returns-then-left-more c =
    let x = c.args.checked.now in
    let e : Entry = (c.in-Some.name.now, c.in-Some.field-0-1.now) in
    let small : c.args.most < 2 ^ 64 - 1 = omega (arith, c.if-most-eq18446744073709551615.false) in
    let far = c.in_ok-more.ensures ∙ ap (λ (f : List ℕ). up_to (c.loop-number.left + 1) (row_stores (plan_checked x) (certificate_checked x) f)) c.as_str.ensures.value in
    stores_over (plan_checked x) (certificate_checked x) c.funcs-all.result.now.entries (whole_stores (algorithm_checked x) (plan_checked x) (certificate_checked x)) c.args.most
    c.loop-number.number c.loop-number.left c.in_ok-more.more e small (sym c.in-Some.ensures.entry) far (omega (arith, c.if-left-more.true)) c.loop-number.invariant

pub loop-number-preserved : goal.loop-number-preserved
loop-number-preserved c =
    let x = c.args.checked.now in
    let e : Entry = (c.in-Some.name.now, c.in-Some.field-0-1.now) in
    let far = c.in_ok-more.ensures ∙ ap (λ (f : List ℕ). up_to (c.loop-number.left + 1) (row_stores (plan_checked x) (certificate_checked x) f)) c.as_str.ensures.value in
    stores_left (plan_checked x) (certificate_checked x) c.funcs-all.result.now.entries (whole_stores (algorithm_checked x) (plan_checked x) (certificate_checked x)) c.args.most
    c.loop-number.number c.loop-number.left c.in_ok-more.more e (sym c.in-Some.ensures.entry) far (omega (arith, c.if-left-more.false)) c.loop-number.invariant

pub returns : goal.returns
returns c =
    let x = c.args.checked.now in
    stores_inside (plan_checked x) (certificate_checked x) c.funcs-all.result.now.entries (whole_stores (algorithm_checked x) (plan_checked x) (certificate_checked x)) c.args.most
    c.loop-number.number c.loop-number.left (omega arith) c.loop-number.invariant
