use Rattle.std.proofs.Common.{arith, ◌≡◌, ◌<◌, ◌≤◌, ◌∙◌, ap, sym, subst, ◌+◌, ◌*◌, ◌^◌, List, ℕ, flat_map, length, drop, get_or}
use Rattle.std.specs.Prelude.{pos, All, ◌-ℤ◌, ◌+ℤ◌, ◌≤ℤ◌}
use Rattle.std.specs.List.{range_with_len}
use Rattle.plan.specs.Symbols.{clipped}
use Rattle.std.proofs.lemmas.List.Elements.{All-get_or}
use Rattle.lin.proofs.Limits.{if_ok}
use Rattle.shares.specs.declared.boxes.Side.{Side}
use Rattle.shares.specs.Boxes.{point_count}
use Rattle.shares.specs.Walked.{IsExtent}
use Rattle.shares.proofs.Rows.{share_some, rest_few, shared_none, rows_below, count_more, common_within}
use Rattle.shares.proofs.walked.+shared_from.Goals as goal

abbrev none : Side
none = record { low = pos 0; count = 0 }

pub shared_from-requires : goal.shared_from-requires
shared_from-requires t c =
    let extents = c.args.extents.now in let place = c.args.place in
    let o = get_or c.args.own.now place none in let r = get_or extents place none in
    let less : place < length extents = omega (arith, c.requires.place, c.requires.dimensions, c.if-place-own.false) in
    let some : 1 ≤ r.count = share_some o r c.common-both.result c.common-both.ensures c.if-both-eq0.false in
    let few : point_count (drop (place + 1) extents) ≤ 2 ^ 24 = rest_few extents place none (2 ^ 24) less some c.requires.count in
    (omega arith, (c.requires.own, (c.requires.extents, (c.requires.dimensions, (omega arith, few)))))

pub returns-then-both-eq0-clause-cells : goal.returns-then-both-eq0-clause-cells
returns-then-both-eq0-clause-cells t c =
    c.new.ensures.items ∙ sym (shared_none c.args.own.now c.args.extents.now c.args.place none (omega arith) (omega arith) (ap (λ (s : Side). s.count) (sym c.common-both.ensures) ∙ c.if-both-eq0.true))

pub returns-clause-within : goal.returns-clause-within
returns-clause-within t c =
    let own = c.args.own.now in let extents = c.args.extents.now in let place = c.args.place in
    let o = get_or own place none in let r = get_or extents place none in
    let within : place < length extents = omega arith in
    let share = common_within o r (All-get_or IsExtent extents place none within c.requires.extents) in
    let Low : Side → Type 0 = λ s. r.low ≤ℤ s.low in
    let High : Side → Type 0 = λ s. 1 ≤ s.count → (s.low +ℤ pos s.count) ≤ℤ (r.low +ℤ pos r.count) in
    let low : Low c.common-both.result = subst Low (sym c.common-both.ensures) share.0 in
    let high : High c.common-both.result = subst High (sym c.common-both.ensures) share.1 in
    let C = point_count (drop (place + 1) extents) in
    let Below : List ℕ → Type 0 = λ xs. All (λ m. m < C) xs in
    let rows : Below c.deref.result.now = subst Below (sym c.deref.ensures.value) c.in_ok-rows.ensures.within in
    let some : 1 ≤ c.common-both.result.count = omega (arith, c.if-both-eq0.false) in
    let Whole : ℕ → List ℕ → Type 0 = λ n xs. All (λ k. k < n) xs in
    let known = rows_below c.common-both.result r C c.deref.result.now low (high some) rows in
    let made = flat_map (λ m. range_with_len (clipped (c.common-both.result.low -ℤ r.low) + r.count * m) c.common-both.result.count) c.deref.result.now in
    let counted : Whole (point_count (drop place extents)) made = subst (λ (n : ℕ). Whole n made) (sym (count_more extents place none within)) known in
    if_ok c.rows_within.result (λ cells. cells.items ≡ made) (λ cells. Whole (point_count (drop place extents)) cells.items)
    (λ cells e. subst (Whole (point_count (drop place extents))) (sym e) counted) c.rows_within.ensures
