use Rattle.std.proofs.Common.{◌≡◌, ℕ, ◌∙◌, List, [], ap, sym, map, drop, arith}
use Rattle.std.proofs.lemmas.List.{drop_all}
use Rattle.meaning.specs.Names.{same_name}
use Rattle.plan.specs.View.{group_of}
use Rattle.plan.specs.declared.plan.Group.{Group as CodeGroup}
use Rattle.checked_plan.specs.Ready.Ready.{place_of_group}
use Rattle.checked_plan.proofs.Plans.{place_here, place_later}
use Rattle.checked_plan.proofs.output.plan_cells.place_in.Goals as goal

pub returns-then-same_name : goal.returns-then-same_name
returns-then-same_name c =
    let gs = c.args.groups.now in let name = c.args.function.now in
    place_here gs name c.loop-place.place (place_of_group (map group_of gs) name) c.index-groups-place.result c.loop-place-test.true c.index-groups-place.is c.loop-place.invariant
    (ap (λ (n : List ℕ). same_name n name) (sym c.as_str.ensures.value) ∙ sym c.same_name.ensures ∙ c.if-same_name.true)

pub loop-place-preserved : goal.loop-place-preserved
loop-place-preserved c =
    let gs = c.args.groups.now in let name = c.args.function.now in
    place_later gs name c.loop-place.place (place_of_group (map group_of gs) name) c.index-groups-place.result c.loop-place-test.true c.index-groups-place.is c.loop-place.invariant
    (ap (λ (n : List ℕ). same_name n name) (sym c.as_str.ensures.value) ∙ sym c.same_name.ensures ∙ c.if-same_name.false)

pub returns : goal.returns
returns c =
    let gs = c.args.groups.now in let name = c.args.function.now in
    let end : drop c.loop-place.place gs ≡ [] = drop_all c.loop-place.place gs c.loop-place-test.false in
    let none : place_of_group (map group_of (drop c.loop-place.place gs)) name ≡ 0 = ap (λ (ys : List CodeGroup). place_of_group (map group_of ys) name) end in
    omega (arith, none, c.loop-place.invariant, c.loop-place-test.false, c.loop-place.auto.place-end)
