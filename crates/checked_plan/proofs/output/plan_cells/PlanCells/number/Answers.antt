use Rattle.std.proofs.Common.{◌≡◌, ℕ, ◌≤◌, ◌^◌, ◌+◌, ◌∙◌, List, Option, Some, ap, sym, subst, arith}
use Rattle.std.specs.List.{AllByRecursion}
use Rattle.std.proofs.Props.{props}
use Rattle.checked_plan.specs.View.{plan_checked}
use Rattle.checked_plan.specs.declared.output.axis.Axis.{Axis}
use Rattle.checked_plan.specs.Output.Axes.{IsNear, IsOn, is_on, point_count, rank_of}
use Rattle.checked_plan.specs.Output.Cells.{counted}
use Rattle.checked_plan.proofs.Plans.{held, held_past, number_some, number_none}
use Rattle.checked_plan.proofs.output.plan_cells.PlanCells.number.Goals as goal

pub is_on-requires : goal.is_on-requires
is_on-requires c =
    held (hlevel props) c.args.self.now c.args.group c.args.at.now c.as_slice.result.now c.in-Some.cells.now c.as_slice.ensures.value (sym c.in-Some.ensures.lookup.0) c.in-Some.ensures.lookup.1
    (λ of. subst (λ (xs : List Axis). AllByRecursion IsNear xs) (sym c.deref.ensures.value) of.near)

pub rank_of-requires-clause-on : goal.rank_of-requires-clause-on
rank_of-requires-clause-on c =
    held (hlevel props) c.args.self.now c.args.group c.args.at.now c.as_slice.result.now c.in-Some.cells.now c.as_slice.ensures.value (sym c.in-Some.ensures.lookup.0) c.in-Some.ensures.lookup.1
    (λ of. ∣ subst (λ (xs : List Axis). IsOn xs c.args.at.now) (sym c.deref-then-is_on.ensures.value)
    (of.on (ap (λ (xs : List Axis). is_on xs c.args.at.now) (sym c.deref.ensures.value) ∙ sym c.is_on.ensures ∙ c.if-is_on.true)) ∣₁)

pub rank_of-requires-clause-few : goal.rank_of-requires-clause-few
rank_of-requires-clause-few c =
    held (hlevel props) c.args.self.now c.args.group c.args.at.now c.as_slice.result.now c.in-Some.cells.now c.as_slice.ensures.value (sym c.in-Some.ensures.lookup.0) c.in-Some.ensures.lookup.1
    (λ of. subst (λ (xs : List Axis). point_count xs ≤ 2 ^ 24) (sym c.deref-then-is_on.ensures.value) of.few)

pub overflow_add-result : goal.overflow_add-result
overflow_add-result c =
    held (hlevel props) c.args.self.now c.args.group c.args.at.now c.as_slice.result.now c.in-Some.cells.now c.as_slice.ensures.value (sym c.in-Some.ensures.lookup.0) c.in-Some.ensures.lookup.1
    (λ of.
    let small = of.small (ap (λ (xs : List Axis). is_on xs c.args.at.now) (sym c.deref.ensures.value) ∙ sym c.is_on.ensures ∙ c.if-is_on.true) in
    let rank : c.rank_of.result ≡ rank_of c.in-Some.cells.now.axes.items c.args.at.now = c.rank_of.ensures ∙ ap (λ (xs : List Axis). rank_of xs c.args.at.now) c.deref-then-is_on.ensures.value in
    omega (arith, small, rank))

pub returns-then-is_on : goal.returns-then-is_on
returns-then-is_on c =
    held (hlevel props) c.args.self.now c.args.group c.args.at.now c.as_slice.result.now c.in-Some.cells.now c.as_slice.ensures.value (sym c.in-Some.ensures.lookup.0) c.in-Some.ensures.lookup.1
    (λ of.
    let on = ap (λ (xs : List Axis). is_on xs c.args.at.now) (sym c.deref.ensures.value) ∙ sym c.is_on.ensures ∙ c.if-is_on.true in
    let rank : c.rank_of.result ≡ rank_of c.in-Some.cells.now.axes.items c.args.at.now = c.rank_of.ensures ∙ ap (λ (xs : List Axis). rank_of xs c.args.at.now) c.deref-then-is_on.ensures.value in
    let more : ◌≡◌ {A = Option ℕ} (Some (c.in-Some.cells.now.first + c.rank_of.result)) (Some (c.in-Some.cells.now.first + rank_of c.in-Some.cells.now.axes.items c.args.at.now)) =
    ap (λ (n : ℕ). Some (c.in-Some.cells.now.first + n)) rank in
    more ∙ number_some (plan_checked c.args.self.now.checked.now) c.args.group c.args.at.now (counted c.in-Some.cells.now) of on)

pub returns-else-is_on : goal.returns-else-is_on
returns-else-is_on c =
    held (hlevel props) c.args.self.now c.args.group c.args.at.now c.as_slice.result.now c.in-Some.cells.now c.as_slice.ensures.value (sym c.in-Some.ensures.lookup.0) c.in-Some.ensures.lookup.1
    (λ of. number_none (plan_checked c.args.self.now.checked.now) c.args.group c.args.at.now (counted c.in-Some.cells.now) of
    (ap (λ (xs : List Axis). is_on xs c.args.at.now) (sym c.deref.ensures.value) ∙ sym c.is_on.ensures ∙ c.if-is_on.false))

pub returns-in-None : goal.returns-in-None
returns-in-None c = held_past c.args.self.now c.args.group c.args.at.now c.as_slice.result.now c.as_slice.ensures.value (sym c.in-None.ensures.lookup.0)
