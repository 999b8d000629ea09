use Rattle.std.proofs.Common.{◌≡◌, ◌-◌, List, Some, length, take, drop, map, sym, subst}
use Rattle.algo.specs.View.{algorithm_of}
use Rattle.sched.specs.declared.hosts.Host.{Host}
use Rattle.lower.specs.Computed.{AreComputedAt, inners_of_hosts, spots_of_hosts}
use Rattle.sched.specs.Groups.{root_of}
use Rattle.sched.specs.Placed.{inner_seen}
use Rattle.lower.proofs.Along.{computed_hosts, told_hosts}
use Rattle.lower.proofs.Firsts.{one_any}
use Rattle.lower.proofs.inner.+inners_of_hosts.Goals as goal

pub returns-in_ok-append-in-len1-up-clause-computed : goal.returns-in_ok-append-in-len1-up-clause-computed
returns-in_ok-append-in-len1-up-clause-computed t c =
    let a = algorithm_of c.args.algo.now in
    let e = root_of c.args.group.now in
    let es = map root_of c.args.functions.now in
    let is = map inner_seen c.args.inners.now in
    let function = root_of c.args.root.now in
    let home = c.args.home.now in
    let hs = c.args.hosts.now in
    let all = c.append.new.self.items in
    let made = computed_hosts a e es is function home _ (take (length hs - 1) (drop 1 hs)) c.in_ok-first-in-len1-up.first.items c.in_ok-others-in-len1-up.others.items all
    c.in_ok-first-in-len1-up.ensures.computed c.in_ok-others-in-len1-up.ensures.computed c.in_ok-append-in-len1-up.ensures.items in
    subst (λ (l : List Host). AreComputedAt a e es is function (spots_of_hosts e is home l) (map inner_seen all)) (sym (one_any hs _ c.in-len1-up.len_at_least)) made

pub returns-in_ok-append-in-len1-up-clause-told : goal.returns-in_ok-append-in-len1-up-clause-told
returns-in_ok-append-in-len1-up-clause-told t c =
    let a = algorithm_of c.args.algo.now in
    let e = root_of c.args.group.now in
    let es = map root_of c.args.functions.now in
    let is = map inner_seen c.args.inners.now in
    let function = root_of c.args.root.now in
    let home = c.args.home.now in
    let hs = c.args.hosts.now in
    let all = c.append.new.self.items in
    let made = told_hosts a e es is function home _ (take (length hs - 1) (drop 1 hs)) c.in_ok-first-in-len1-up.first.items c.in_ok-others-in-len1-up.others.items all
    c.in_ok-first-in-len1-up.ensures.told c.in_ok-others-in-len1-up.ensures.told c.in_ok-append-in-len1-up.ensures.items in
    subst (λ (l : List Host). inners_of_hosts a e es is function home l ≡ Some (map inner_seen all)) (sym (one_any hs _ c.in-len1-up.len_at_least)) made
