use Rattle.std.proofs.Common.{◌≡◌, ℕ, ◌+◌, ◌∙◌, List, true, ap, sym}
use Rattle.std.proofs.Props.{props}
use Rattle.checked_plan.specs.declared.output.axis.Axis.{Axis}
use Rattle.checked_plan.specs.Output.Axes.{from_zero, is_on, rank_of}
use Rattle.checked_plan.proofs.Following.{counts}
use Rattle.checked_plan.proofs.Plans.{held}
use Rattle.checked_plan.proofs.output.plan_cells.PlanCells.first.Goals as goal

pub returns-then-are_from_zero : goal.returns-then-are_from_zero
returns-then-are_from_zero c at within =
    held (hlevel props) c.args.self.now c.args.group at c.as_slice.result.now c.in-Some.cells.now c.as_slice.ensures.value (sym c.in-Some.ensures.lookup.0) c.in-Some.ensures.lookup.1
    (λ of.
    let same : c.in-Some.cells.now.axes.items ≡ from_zero c.args.extents.now = sym c.deref.ensures.value ∙ c.are_from_zero.ensures c.if-are_from_zero.true in
    let counted = counts c.args.extents.now at within in
    let test : is_on c.in-Some.cells.now.axes.items at ≡ true = ap (λ (xs : List Axis). is_on xs at) same ∙ counted.on in
    sym (of.number test) ∙ ap (λ (n : ℕ). c.in-Some.cells.now.first + n) (ap (λ (xs : List Axis). rank_of xs at) same ∙ counted.rank))
