use Rattle.std.proofs.Common.{◌≡◌, ◌∙◌, ◌+◌, ◌<◌, ℕ, List, sym, ap, subst, arith, length}
use Rattle.std.specs.Prelude.{All, IsTrue, ◌↔◌, filter}
use Rattle.std.proofs.lemmas.List.{length-map}
use Rattle.lin.proofs.Limits.{if_ok}
use Rattle.plan.specs.Symbols.{points}
use Rattle.plan.specs.View.{plan_of}
use Rattle.plan.specs.Certificate.Cells.{grid_symbols, cells}
use Rattle.plan.specs.Certificate.Certificate.{certificate_of}
use Rattle.shares.specs.Boxes.{is_in_box, point_count, IsSmall}
use Rattle.shares.specs.Spaces.{numbers_in, HasAll}
use Rattle.shares.specs.Layout.{own_list, OwnIsInside}
use Rattle.shares.proofs.Seated.{group_at, group_within, seat_small, ground_is, region_ends, own_is, inside_is, below_cells}
use Rattle.shares.proofs.layout.own_of.Goals as goal

pub index-ground-requires : goal.index-ground-requires
index-ground-requires c =
    let x = c.args.layout.now in
    let k = group_within x c.requires.layout c.args.piece c.index-seat.result.now c.requires.piece c.index-seat.ensures in
    omega (arith, k, x.grounds.ok.0)

pub runs_in-requires-clause-space : goal.runs_in-requires-clause-space
runs_in-requires-clause-space c = (ground_is c.args.layout.now c.requires.layout c.args.piece c.index-seat.result.now c.requires.piece c.index-seat.ensures c.index-ground.result.now c.index-ground.ensures).cells

pub runs_in-requires-clause-limits : goal.runs_in-requires-clause-limits
runs_in-requires-clause-limits c = (ground_is c.args.layout.now c.requires.layout c.args.piece c.index-seat.result.now c.requires.piece c.index-seat.ensures c.index-ground.result.now c.index-ground.ensures).own_like.0

pub runs_in-requires-clause-at : goal.runs_in-requires-clause-at
runs_in-requires-clause-at c = subst IsSmall (sym c.deref.ensures.value) (seat_small c.args.layout.now c.requires.layout c.args.piece c.index-seat.result.now c.requires.piece c.index-seat.ensures)

pub runs_in-requires-clause-dimensions : goal.runs_in-requires-clause-dimensions
runs_in-requires-clause-dimensions c =
    let known = ground_is c.args.layout.now c.requires.layout c.args.piece c.index-seat.result.now c.requires.piece c.index-seat.ensures c.index-ground.result.now c.index-ground.ensures in
    let g = (group_at c.args.layout.now c.requires.layout c.args.piece c.index-seat.result.now c.requires.piece c.index-seat.ensures).0 in
    known.own_like.1 ∙ sym (length-map g.region _) ∙ ap length (sym known.cell_sides)

pub returns-clause-numbers : goal.returns-clause-numbers
returns-clause-numbers c =
    let y = c.index-ground.result.now in
    let p = plan_of c.args.layout.now.plan.now in let cert = certificate_of c.args.layout.now.cert.now in
    let Made : List ℕ → List ℕ = λ at. numbers_in y.cells (filter (is_in_box y.cells.sides.items) (points (grid_symbols at) y.own.now)) in
    if_ok c.runs_in.result (λ found. found.cells ≡ Made c.deref.result.now) (λ found. found.cells ≡ own_list p cert c.args.piece)
    (λ found e. e ∙ ap Made c.deref.ensures.value ∙ own_is c.args.layout.now c.requires.layout c.args.piece c.index-seat.result.now c.requires.piece c.index-seat.ensures c.index-ground.result.now c.index-ground.ensures) c.runs_in.ensures.numbers

pub returns-clause-within : goal.returns-clause-within
returns-clause-within c =
    let y = c.index-ground.result.now in
    let p = plan_of c.args.layout.now.plan.now in let cert = certificate_of c.args.layout.now.cert.now in
    let g = group_at c.args.layout.now c.requires.layout c.args.piece c.index-seat.result.now c.requires.piece c.index-seat.ensures in
    let low = below_cells p cert c.index-seat.result.now.group g.0 g.1 y (ground_is c.args.layout.now c.requires.layout c.args.piece c.index-seat.result.now c.requires.piece c.index-seat.ensures c.index-ground.result.now c.index-ground.ensures) (region_ends c.args.layout.now c.requires.layout c.args.piece c.index-seat.result.now c.requires.piece c.index-seat.ensures c.index-ground.result.now c.index-ground.ensures) in
    if_ok c.runs_in.result (λ found. All (λ n. n < y.cells.first + point_count y.cells.sides.items) found.cells) (λ found. All (λ n. n < length (cells p)) found.cells)
    (λ found h k d less. let less = h k d less in omega (arith, low, less)) c.runs_in.ensures.within

pub returns-clause-whole : goal.returns-clause-whole
returns-clause-whole c =
    let y = c.index-ground.result.now in
    let p = plan_of c.args.layout.now.plan.now in let cert = certificate_of c.args.layout.now.cert.now in
    let Whole : List ℕ → Type 0 = λ at. HasAll y.cells (points (grid_symbols at) y.own.now) in
    let both = inside_is c.args.layout.now c.requires.layout c.args.piece c.index-seat.result.now c.requires.piece c.index-seat.ensures c.index-ground.result.now c.index-ground.ensures in
    if_ok c.runs_in.result (λ found. IsTrue found.whole ↔ Whole c.deref.result.now) (λ found. IsTrue found.whole ↔ OwnIsInside p cert c.args.piece)
    (λ found k. ((λ h. both.0 (subst Whole c.deref.ensures.value (k.0 h))), (λ h. k.1 (subst Whole (sym c.deref.ensures.value) (both.1 h))))) c.runs_in.ensures.whole
