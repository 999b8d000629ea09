use Rattle.std.proofs.Common.{◌≡◌, ◌∙◌, ◌+◌, ◌-◌, ◌<◌, sym, ap, length, arith, Some}
use Rattle.std.proofs.lemmas.List.{length-map}
use Rattle.plan.specs.Plan.{Plan}
use Rattle.plan.specs.View.{plan_of, group_of}
use Rattle.plan.specs.Certificate.Certificate.{Certificate, certificate_of}
use Rattle.plan.specs.Certificate.Cells.{first_cell}
use Rattle.shares.specs.declared.grounds.Ground.{Ground}
use Rattle.shares.proofs.Groups.{group_below, get_some, cells_next, cells_all}
use Rattle.shares.proofs.Known.{cells_counted}
use Rattle.shares.proofs.answer.cell_count.Goals as goal

pub overflow_cast-result : goal.overflow_cast-result
overflow_cast-result c =
    let x = c.args.layout.now in
    let p : Plan = plan_of x.plan.now in
    let cert : Certificate = certificate_of x.cert.now in
    let now = c.as_slice-groups.result.now in
    let same = ap length c.as_slice-groups.ensures.value in
    let all = c.requires.grounds.count in
    let n = length now - 1 in
    let some : length now ≡ 0 → ⊥ = c.if-groups-eq0.false in
    let one : n + 1 ≡ length now = omega (arith, some) in
    let less : n < length x.plan.now.groups.items = omega (arith, one, same, all) in
    let here : n < length x.grounds.items = omega (arith, one, same) in
    let d = c.index-ground.result.now in
    let made = group_below x.plan.now.groups.items n less in
    let this = get_some x.grounds.items n d here ∙ ap (λ (y : Ground). Some y) (sym c.index-ground.ensures) in
    let ground = c.requires.grounds.each n (group_of made.0) d made.1 this in
    let counted = cells_counted p cert n (group_of made.0) d ground c.deref.result.now c.most_points.result c.deref.ensures.value c.most_points.ensures in
    omega (arith, counted.1)

pub overflow_add-result : goal.overflow_add-result
overflow_add-result c =
    let x = c.args.layout.now in
    let p : Plan = plan_of x.plan.now in
    let cert : Certificate = certificate_of x.cert.now in
    let now = c.as_slice-groups.result.now in
    let same = ap length c.as_slice-groups.ensures.value in
    let all = c.requires.grounds.count in
    let n = length now - 1 in
    let some : length now ≡ 0 → ⊥ = c.if-groups-eq0.false in
    let one : n + 1 ≡ length now = omega (arith, some) in
    let less : n < length x.plan.now.groups.items = omega (arith, one, same, all) in
    let here : n < length x.grounds.items = omega (arith, one, same) in
    let d = c.index-ground.result.now in
    let made = group_below x.plan.now.groups.items n less in
    let this = get_some x.grounds.items n d here ∙ ap (λ (y : Ground). Some y) (sym c.index-ground.ensures) in
    let ground = c.requires.grounds.each n (group_of made.0) d made.1 this in
    let counted = cells_counted p cert n (group_of made.0) d ground c.deref.result.now c.most_points.result c.deref.ensures.value c.most_points.ensures in
    let first = ground.first_cell in
    omega (arith, counted.1, first)

pub returns : goal.returns
returns c =
    let x = c.args.layout.now in
    let p : Plan = plan_of x.plan.now in
    let cert : Certificate = certificate_of x.cert.now in
    let now = c.as_slice-groups.result.now in
    let same = ap length c.as_slice-groups.ensures.value in
    let all = c.requires.grounds.count in
    let n = length now - 1 in
    let some : length now ≡ 0 → ⊥ = c.if-groups-eq0.false in
    let one : n + 1 ≡ length now = omega (arith, some) in
    let less : n < length x.plan.now.groups.items = omega (arith, one, same, all) in
    let here : n < length x.grounds.items = omega (arith, one, same) in
    let d = c.index-ground.result.now in
    let made = group_below x.plan.now.groups.items n less in
    let this = get_some x.grounds.items n d here ∙ ap (λ (y : Ground). Some y) (sym c.index-ground.ensures) in
    let ground = c.requires.grounds.each n (group_of made.0) d made.1 this in
    let counted = cells_counted p cert n (group_of made.0) d ground c.deref.result.now c.most_points.result c.deref.ensures.value c.most_points.ensures in
    let first = ground.first_cell in
    let next = cells_next p.groups n (group_of made.0) made.1 in
    let long = length-map x.plan.now.groups.items group_of in
    let end : n + 1 ≡ length p.groups = omega (arith, one, same, all, long) in
    let last = ap (first_cell p.groups) end in
    let whole = cells_all 0 p.groups in
    omega (arith, first, next, last, whole, counted.0)
