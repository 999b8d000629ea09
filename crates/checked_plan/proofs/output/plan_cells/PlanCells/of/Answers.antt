use Rattle.std.proofs.Common.{◌≡◌, ◌∙◌, List, map, ap, sym, subst, length}
use Rattle.std.specs.List.{AllByRecursion, range_with_len}
use Rattle.std.proofs.Props.{props}
use Rattle.std.proofs.Math.Logic.{∥∥₁_elim}
use Rattle.checked_plan.specs.View.{plan_checked}
use Rattle.plan.specs.Plan.{Group, Plan}
use Rattle.plan.specs.View.{group_of}
use Rattle.std.proofs.lemmas.List.{length-map}
use Rattle.checked_plan.specs.Ready.Ready.{IsSmallSpan}
use Rattle.checked_plan.specs.Output.Cells.{cells_of_group}
use Rattle.checked_plan.proofs.Plans.{all_places}
use Rattle.checked_plan.proofs.output.plan_cells.PlanCells.of.Goals as goal

pub cells_of-requires : goal.cells_of-requires
cells_of-requires c =
    let k = c.args.checked.now in
    let groups = ap (map group_of) c.as_slice.ensures.value ∙ ap (λ (p : Plan). p.groups) c.plan.ensures in
    ∥∥₁_elim k.ready (hlevel props) (λ ready.
    subst (λ (gs : List Group). AllByRecursion (λ g. AllByRecursion IsSmallSpan g.region) gs) (sym groups)
    (all_places (λ (g : Group). AllByRecursion IsSmallSpan g.region) (plan_checked k).groups ready.regions))

pub invariant_of-result : goal.invariant_of-result
invariant_of-result c =
    let k = c.args.checked.now in
    let groups = ap (map group_of) c.as_slice.ensures.value ∙ ap (λ (p : Plan). p.groups) c.plan.ensures in
    let long : length c.as_slice.result.now ≡ length (plan_checked k).groups = sym (length-map c.as_slice.result.now group_of) ∙ ap (λ (gs : List Group). length gs) groups in
    record { groups_are = c.in_ok-groups.ensures ∙ (λ j. map (cells_of_group (groups j)) (range_with_len 0 (long j))) }
