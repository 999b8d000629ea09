use Rattle.std.proofs.Common.{◌≡◌, ◌-◌, ◌^◌, ◌∙◌, ◌++◌, ◌∷◌, [], List, ap, sym, subst, min, map, arith}
use Rattle.std.proofs.lemmas.List.FromFn.{map-range_with_len_more}
use Rattle.std.proofs.lemmas.List.Elements.{All-from_recursion}
use Rattle.std.proofs.lemmas.List.{map-append}
use Rattle.std.specs.List.{AllByRecursion}
use Rattle.std.specs.Prelude.{Option, All}
use Rattle.lin.specs.declared.span.Span1.{Span1}
use Rattle.plan.specs.Plan.{Group}
use Rattle.plan.specs.View.{group_of}
use Rattle.headline.specs.Numbers.{group_region}
use Rattle.checked_plan.specs.Ready.Ready.{IsSmallSpan}
use Rattle.checked_plan.specs.Output.Axes.{axes_of, point_count}
use Rattle.checked_plan.specs.Output.Cells.{cells_of_group, counted}
use Rattle.checked_plan.specs.declared.output.axis.Axis.{Axis}
use Rattle.checked_plan.proofs.Plans.{first_none, first_more, group_at, at_place}
use Rattle.checked_plan.proofs.output.plan_cells.cells_of.Goals as goal

pub loop-group-init : goal.loop-group-init
loop-group-init c = (first_none (map group_of c.args.groups.now) (2 ^ 32 - 1), ap (map counted) c.new-cells.ensures.items)

pub axes_of-requires : goal.axes_of-requires
axes_of-requires c =
    let gs = c.args.groups.now in
    let x = c.group-item.result in
    let at = group_at gs c.loop-group.group-index x c.loop-group-test.true c.group-item.is in
    let small = at_place (λ (g : Group). AllByRecursion IsSmallSpan g.region) (map group_of gs) c.loop-group.group-index (group_of x) c.requires at in
    subst (λ (xs : List Span1). All IsSmallSpan xs) (sym c.as_slice.ensures) (All-from_recursion IsSmallSpan x.region small)

pub loop-group-preserved : goal.loop-group-preserved
loop-group-preserved c =
    let gs = map group_of c.args.groups.now in
    let x = c.group-item.result in
    let i = c.loop-group.group-index in
    let at = group_at c.args.groups.now i x c.loop-group-test.true c.group-item.is in
    let axes : c.in_ok-axes.axes.items ≡ axes_of x.region = c.in_ok-axes.ensures ∙ ap axes_of c.as_slice.ensures in
    let count = c.point_count-count.ensures ∙ ap (λ (xs : List Axis). min (point_count xs) (2 ^ 32 - 1)) (c.deref.ensures.value ∙ axes) in
    let is : counted (record { first = c.loop-group.first; axes = c.in_ok-axes.axes }) ≡ cells_of_group gs i =
    (λ j. record { first = c.loop-group.invariant.0 j; axes = (axes ∙ ap (λ (o : Option Group). axes_of (group_region o)) (sym at)) j }) in (
      c.saturating_add-first.ensures ∙ first_more gs i (group_of x) c.loop-group.first c.point_count-count.result (2 ^ 32 - 1) at c.loop-group.invariant.0 count,
      ap (map counted) c.in_ok-push.ensures.items
          ∙ map-append counted c.loop-group.cells.items (record { first = c.loop-group.first; axes = c.in_ok-axes.axes } ∷ [])
          ∙ (λ j. c.loop-group.invariant.1 j ++ is j ∷ [])
          ∙ sym (map-range_with_len_more (cells_of_group gs) 0 i i (omega arith)),
    )
