use Rattle.std.proofs.Common.{◌≡◌, ◌∷◌, ◌+◌, ◌-◌, List, Some, false, length, take, drop, map, sym, ap, subst, ◌∙◌, arith}
use Rattle.algo.specs.View.{algorithm_of}
use Rattle.sched.specs.declared.nest.Nest.{Nest}
use Rattle.sched.specs.declared.placing.Loop.{Loop}
use Rattle.sched.specs.Skeleton.{nest_seen}
use Rattle.lower.specs.Computed.{AreComputedAt, inners_in, spots_in}
use Rattle.sched.specs.Groups.{root_of}
use Rattle.regions.specs.Homes.{host_seen, is_over_grid}
use Rattle.sched.specs.Placed.{inner_seen}
use Rattle.lower.proofs.Along.{computed_in_nests, told_in_nests}
use Rattle.sched.proofs.Claimed.{one_first}
use Rattle.lower.proofs.inner.+inners_in.Goals as goal

pub returns-in_ok-put_before-in-len1-up-2-clause-computed : goal.returns-in_ok-put_before-in-len1-up-2-clause-computed
returns-in_ok-put_before-in-len1-up-2-clause-computed t c =
    let a = algorithm_of c.args.algo.now in
    let e = root_of c.args.group.now in
    let es = map root_of c.args.functions.now in
    let is = map inner_seen c.args.inners.now in
    let function = root_of c.args.root.now in
    let host = host_seen c.args.hosted.now in
    let turn = c.args.home.now.turn in
    let ns = c.args.nests.now in
    let n = c._nest-item.result in
    let rest = take (length ns - 1) (drop 1 ns) in
    let all = c.in_ok-put_before-in-len1-up-2.field-0.items in
    let split : ns ≡ n ∷ rest = one_first ns n c.in-len1-up.len_at_least c._nest-item.is in
    let next : c.in-Some.next ≡ c.args.definition + 1 = omega (arith, c.in-Some.ensures) in
    let grid : is_over_grid host.function.placed.loops turn ≡ false =
    ap (λ (l : List Loop). is_over_grid l turn) (sym c.deref.ensures.value) ∙ sym c.is_over_grid.ensures ∙ c.if-is_over_grid.false in
    let made = computed_in_nests a e es is function c.args.host host turn c.args.definition (nest_seen n) (map nest_seen rest) c.in-Some.next c.in_ok-first-in-len1-up.first
    c.in_ok-others-in-len1-up.others.items all c.in_ok-first-in-len1-up.ensures.computed grid next c.in_ok-others-in-len1-up.ensures.computed
    c.in_ok-put_before-in-len1-up-2.ensures in
    subst (λ (l : List Nest). AreComputedAt a e es is function (spots_in c.args.host host turn c.args.definition (map nest_seen l)) (map inner_seen all)) (sym split) made

pub returns-in_ok-put_before-in-len1-up-2-clause-told : goal.returns-in_ok-put_before-in-len1-up-2-clause-told
returns-in_ok-put_before-in-len1-up-2-clause-told t c =
    let a = algorithm_of c.args.algo.now in
    let e = root_of c.args.group.now in
    let es = map root_of c.args.functions.now in
    let is = map inner_seen c.args.inners.now in
    let function = root_of c.args.root.now in
    let host = host_seen c.args.hosted.now in
    let turn = c.args.home.now.turn in
    let ns = c.args.nests.now in
    let n = c._nest-item.result in
    let rest = take (length ns - 1) (drop 1 ns) in
    let all = c.in_ok-put_before-in-len1-up-2.field-0.items in
    let split : ns ≡ n ∷ rest = one_first ns n c.in-len1-up.len_at_least c._nest-item.is in
    let next : c.in-Some.next ≡ c.args.definition + 1 = omega (arith, c.in-Some.ensures) in
    let grid : is_over_grid host.function.placed.loops turn ≡ false =
    ap (λ (l : List Loop). is_over_grid l turn) (sym c.deref.ensures.value) ∙ sym c.is_over_grid.ensures ∙ c.if-is_over_grid.false in
    let made = told_in_nests a e es is function c.args.host host turn c.args.definition (nest_seen n) (map nest_seen rest) c.in_ok-first-in-len1-up.first
    c.in_ok-others-in-len1-up.others.items all c.in-Some.next c.in_ok-first-in-len1-up.ensures.told grid next c.in_ok-others-in-len1-up.ensures.told
    c.in_ok-put_before-in-len1-up-2.ensures in
    subst (λ (l : List Nest). inners_in a e es is function c.args.host host turn c.args.definition (map nest_seen l) ≡ Some (map inner_seen all)) (sym split) made
