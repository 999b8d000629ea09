use Rattle.std.proofs.Common.{◌≡◌, ◌+◌, ◌-◌, List, length, map, take, drop, sym, subst, arith}
use Rattle.std.specs.Option.{option_map}
use Rattle.sched.specs.declared.roots.Root.{Root}
use Rattle.sched.specs.Stored.{formula_of}
use Rattle.blocks.specs.Fetches.{fetch_seen}
use Rattle.lower.specs.Fetches.{fetched_groups}
use Rattle.algo.specs.View.{algorithm_of}
use Rattle.sched.specs.Around.{grid_scope}
use Rattle.regions.specs.Taken.{sites_of}
use Rattle.lower.specs.Making.{FetchesMade}
use Rattle.sched.specs.Groups.{root_of}
use Rattle.lower.specs.Placed.{numbered, FetchesBy}
use Rattle.lower.proofs.Claimed.{fetches_none, fetches_first}
use Rattle.sched.proofs.Claimed.{one_first}
use Rattle.lower.proofs.Grouped.{fetched_none, fetched_first}
use Rattle.lower.proofs.grouping.+fetches_from.Goals as goal

pub returns-in-empty-clause-made : goal.returns-in-empty-clause-made
returns-in-empty-clause-made t c = λ alone.
    let e = root_of c.args.user.now in
    let s = sites_of (algorithm_of c.args.algo.now) e.0 e.2 e.1.skeleton in
    let u = grid_scope e.1.skeleton.grid in
    let us = map formula_of c.args.user.now.formulas.now in
    fetches_none s u us c.args.number c.args.group c.args.roots.now c.new.result.items c.args.body.now c.in-empty.len_below c.new.ensures.items

pub returns-in_ok-put_before-in-len1-up-clause-made : goal.returns-in_ok-put_before-in-len1-up-clause-made
returns-in_ok-put_before-in-len1-up-clause-made t c = λ alone.
    let e = root_of c.args.user.now in
    let s = sites_of (algorithm_of c.args.algo.now) e.0 e.2 e.1.skeleton in
    let u = grid_scope e.1.skeleton.grid in
    let us = map formula_of c.args.user.now.formulas.now in
    let n = c.args.number in
    let h = c.args.group in
    let m = c.in-Some.next in
    let rs = c.args.roots.now in
    let r = c.callee-item.result in
    let rest = take (length rs - 1) (drop 1 rs) in
    let old = c.args.body.now in
    let one = c.fetch_at.new.body in
    let new = c.fetches_from.new.body in
    let first = option_map fetch_seen c.in_ok-first-in-len1-up.first in
    let others = map fetch_seen c.in_ok-others-in-len1-up.others.items in
    let all = map fetch_seen c.in_ok-put_before-in-len1-up.field-0.items in
    let next : m ≡ h + 1 = omega (arith, c.in-Some.ensures) in
    let made = fetches_first s u us n h m (root_of r) (map root_of rest) first others all old one new (c.in_ok-first-in-len1-up.ensures.made alone) (c.in_ok-others-in-len1-up.ensures.made alone) next
    c.in_ok-put_before-in-len1-up.ensures in
    subst (λ (l : List Root). FetchesMade s u n (fetched_groups us n h (map root_of l)) all old new) (sym (one_first rs r c.in-len1-up.len_at_least c.callee-item.is)) made

pub returns-in-empty-clause-fetched : goal.returns-in-empty-clause-fetched
returns-in-empty-clause-fetched t c = fetched_none c.args.number c.args.group c.args.roots.now c.new.result.items c.args.body.now c.in-empty.len_below c.new.ensures.items

pub returns-in_ok-put_before-in-len1-up-clause-fetched : goal.returns-in_ok-put_before-in-len1-up-clause-fetched
returns-in_ok-put_before-in-len1-up-clause-fetched t c =
    let n = c.args.number in
    let h = c.args.group in
    let m = c.in-Some.next in
    let rs = c.args.roots.now in
    let r = c.callee-item.result in
    let rest = take (length rs - 1) (drop 1 rs) in
    let old = c.args.body.now in
    let new = c.fetches_from.new.body in
    let all = map fetch_seen c.in_ok-put_before-in-len1-up.field-0.items in
    let next : m ≡ h + 1 = omega (arith, c.in-Some.ensures) in
    let made = fetched_first n h m (root_of r) (map root_of rest) (option_map fetch_seen c.in_ok-first-in-len1-up.first) (map fetch_seen c.in_ok-others-in-len1-up.others.items) all old
    c.fetch_at.new.body new c.in_ok-first-in-len1-up.ensures.may c.in_ok-others-in-len1-up.ensures.fetched next c.in_ok-put_before-in-len1-up.ensures in
    subst (λ (l : List Root). FetchesBy n (numbered h (map root_of l)) all old new) (sym (one_first rs r c.in-len1-up.len_at_least c.callee-item.is)) made
