use Rattle.std.proofs.Common.{◌≡◌, ℕ, ◌+◌, ◌*◌, ◌≤◌, ◌<◌, ◌^◌, List, length, map, flat_map, drop, get_or, arith, ap, sym, ◌∙◌, subst}
use Rattle.std.specs.Prelude.{pos, ◌-ℤ◌}
use Rattle.std.specs.List.{range_with_len}
use Rattle.std.proofs.Math.Nat.{mul-le-mul, mul_comm}
use Rattle.std.proofs.lemmas.Bool.Decides.{nat_tests}
use Rattle.lin.proofs.Limits.{if_ok}
use Rattle.plan.specs.Symbols.{clipped}
use Rattle.shares.specs.declared.boxes.Side.{Side}
use Rattle.shares.specs.Boxes.{point_count}
use Rattle.shares.specs.Walked.{common, shared_cells}
use Rattle.shares.proofs.Rows.{common_few, count_more, rest_few, shared_few, shared_more, shared_none, share_some}
use Rattle.shares.proofs.RowRuns.{raised_rows}
use Rattle.shares.proofs.walked.shared_runs.Goals as goal

abbrev none : Side
none = record { low = pos 0; count = 0 }

pub returns-then-both-eq0 : goal.returns-then-both-eq0
returns-then-both-eq0 c =
    let own = c.args.own.now in
    let extents = c.args.extents.now in
    let some : 0 < length own = (let e = c.if-is_empty.ensures in grind (arith, nat_tests)) in
    let like : 0 < length extents = omega (arith, some, c.requires.dimensions) in
    c.new.ensures ∙ sym (ap (map (λ n. c.args.first + n)) (shared_none own extents 0 none some like (ap (λ (s : Side). s.count) (sym c.common-both.ensures) ∙ c.if-both-eq0.true)))

pub shared_from-requires-clause-count : goal.shared_from-requires-clause-count
shared_from-requires-clause-count c =
    let own = c.args.own.now in
    let extents = c.args.extents.now in
    let there : 0 < length own = (let e = c.if-is_empty.ensures in grind (arith, nat_tests)) in
    let like : 0 < length extents = omega (arith, there, c.requires.dimensions) in
    let some : 1 ≤ (get_or extents 0 none).count = share_some (get_or own 0 none) (get_or extents 0 none) c.common-both.result c.common-both.ensures c.if-both-eq0.false in
    rest_few extents 0 none (2 ^ 24) like some (let few = c.requires.few in omega (arith, few))

pub runs_within-requires-clause-few : goal.runs_within-requires-clause-few
runs_within-requires-clause-few c =
    let own = c.args.own.now in
    let extents = c.args.extents.now in
    let there : 0 < length own = (let e = c.if-is_empty.ensures in grind (arith, nat_tests)) in
    let like : 0 < length extents = omega (arith, there, c.requires.dimensions) in
    let r = get_or extents 0 none in
    let both = c.common-both.result in
    let rows : length c.deref.result.now ≤ point_count (drop 1 extents) = subst (λ (xs : List ℕ). length xs ≤ point_count (drop 1 extents)) (sym (c.deref.ensures.value ∙ c.in_ok-rows.ensures.cells)) (shared_few (drop 1 own) (drop 1 extents)) in
    let part : both.count ≤ r.count = subst (λ (s : Side). s.count ≤ r.count) (sym c.common-both.ensures) (common_few (get_or own 0 none) r) in
    let most : length c.deref.result.now * both.count ≤ point_count (drop 1 extents) * r.count = mul-le-mul rows part in
    let all = count_more extents 0 none like in
    let few = c.requires.few in
    let turned : point_count (drop 1 extents) * r.count ≡ r.count * point_count (drop 1 extents) = mul_comm (point_count (drop 1 extents)) r.count in
    omega (arith, most, all, few, turned)

pub returns : goal.returns
returns c =
    let own = c.args.own.now in
    let extents = c.args.extents.now in
    let first = c.args.first in
    let there : 0 < length own = (let e = c.if-is_empty.ensures in grind (arith, nat_tests)) in
    let like : 0 < length extents = omega (arith, there, c.requires.dimensions) in
    let r = get_or extents 0 none in
    let both = common (get_or own 0 none) r in
    let rest = shared_cells (drop 1 own) (drop 1 extents) in
    let f : ℕ → ℕ = λ m. clipped (both.low -ℤ r.low) + r.count * m in
    let g : Side → ℕ → ℕ = λ part m. first + clipped (part.low -ℤ r.low) + r.count * m in
    let more : shared_cells own extents ≡ flat_map (λ m. range_with_len (f m) both.count) rest = shared_more own extents 0 none there like in
    let raised = raised_rows first f (g both) (λ m. (let e : first + f m ≡ g both m = omega arith in e)) both.count rest in
    let all : flat_map (λ m. range_with_len (g c.common-both.result m) c.common-both.result.count) c.deref.result.now ≡ map (λ n. first + n) (shared_cells own extents) =
    ap (flat_map (λ m. range_with_len (g c.common-both.result m) c.common-both.result.count)) (c.deref.ensures.value ∙ c.in_ok-rows.ensures.cells)
    ∙ ap (λ (part : Side). flat_map (λ m. range_with_len (g part m) part.count) rest) c.common-both.ensures ∙ sym raised ∙ sym (ap (map (λ n. first + n)) more) in
    if_ok c.runs_within.result (λ cells. cells ≡ flat_map (λ m. range_with_len (g c.common-both.result m) c.common-both.result.count) c.deref.result.now)
    (λ cells. cells ≡ map (λ n. first + n) (shared_cells own extents)) (λ cells e. e ∙ all) c.runs_within.ensures
