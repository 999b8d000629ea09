use Rattle.std.proofs.Common.{◌≡◌, ℕ, List, Some, map, subst}
use Rattle.algo.specs.View.{algorithm_of}
use Rattle.regions.specs.Demanded.{sites_at}
use Rattle.sched.specs.declared.roots.Site.{Site}
use Rattle.lower.specs.Computed.{inner_called}
use Rattle.sched.specs.Groups.{root_of}
use Rattle.regions.specs.Homes.{host_seen}
use Rattle.sched.specs.Placed.{inner_seen}
use Rattle.sched.specs.Taken.{site_of}
use Rattle.lower.proofs.Along.{computed_there, told_called}
use Rattle.lower.proofs.inner.inner_at.Goals as goal

pub returns-clause-computed : goal.returns-clause-computed
returns-clause-computed c =
    let a = algorithm_of c.args.algo.now in
    let e = root_of c.args.group.now in
    let is = map inner_seen c.args.inners.now in
    let function = root_of c.args.root.now in
    let sites = c.in_ok-sites.sites in
    let called : sites_at a e is c.args.home function.0.subject.name ≡ Some (map site_of sites.items) =
    subst (λ (n : List ℕ). sites_at a e is c.args.home n ≡ Some (map site_of sites.items)) c.as_str.ensures.value c.in_ok-sites.ensures in
    computed_there a e (map root_of c.args.functions.now) is function c.args.home sites c.is_empty.result c.in_ok-inner.inner called c.is_empty.ensures c.if-is_empty.false
    c.in_ok-inner.ensures.home c.in_ok-inner.ensures.computed

pub returns-clause-told : goal.returns-clause-told
returns-clause-told c =
    let a = algorithm_of c.args.algo.now in
    let e = root_of c.args.group.now in
    let es = map root_of c.args.functions.now in
    let is = map inner_seen c.args.inners.now in
    let function = root_of c.args.root.now in
    let host = host_seen c.args.hosted.now in
    let sites = c.in_ok-sites.sites in
    let made = Some (inner_seen c.in_ok-inner.inner) in
    let called : sites_at a e is c.args.home function.0.subject.name ≡ Some (map site_of sites.items) =
    subst (λ (n : List ℕ). sites_at a e is c.args.home n ≡ Some (map site_of sites.items)) c.as_str.ensures.value c.in_ok-sites.ensures in
    let told : inner_called a e es is function host c.args.home (map site_of sites.items) ≡ made =
    subst (λ (l : List Site). inner_called a e es is function host c.args.home (map site_of l) ≡ made) c.deref.ensures.value c.in_ok-inner.ensures.told in
    told_called a e es is function host c.args.home sites c.is_empty.result made called c.is_empty.ensures c.if-is_empty.false told
