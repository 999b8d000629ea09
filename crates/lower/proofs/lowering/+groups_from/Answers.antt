use Rattle.std.proofs.Common.{◌≡◌, ◌+◌, ◌-◌, List, length, map, take, drop, sym, subst, ◌∙◌, arith}
use Rattle.lower.specs.declared.parties.Party.{Party}
use Rattle.algo.specs.View.{algorithm_of}
use Rattle.lower.specs.Groups.{AreAlone, AreKnown, BodiesMade, GroupsBy, party_of, placed_of}
use Rattle.sched.specs.Groups.{root_of}
use Rattle.lower.proofs.Claimed.{bodies_first}
use Rattle.sched.proofs.Claimed.{one_first}
use Rattle.lower.proofs.Grouped.{groups_first}
use Rattle.lower.proofs.lowering.+groups_from.Goals as goal

pub returns-clause-bodies : goal.returns-clause-bodies
returns-clause-bodies t c = λ alone.
    let ps = c.args.parties.now in
    let p = c.party-item.result in
    let rest = take (length ps - 1) (drop 1 ps) in
    let split = one_first ps p c.in-len1-up.len_at_least c.party-item.is in
    let each = subst AreAlone split alone in
    let a = algorithm_of c.args.algo.now in
    let all = map root_of c.args.roots.now in
    let n = c.args.beginning.number in
    let first = c.args.beginning.claim in
    let old = c.args.certificate.now in
    let mid = c.group_at.new.certificate in
    let new = c.groups_from.new.certificate in
    let group = c.in_ok-group.field-0.group in
    let behind = c.in_ok-others.others.0.items in
    let groups = c.in_ok-put_first.field-0.0.items in
    let line = c.args.beginning.line in
    let next : c.in-Some.number ≡ n + 1 = omega (arith, c.in-Some.ensures) in
    let made = bodies_first a all n c.in-Some.number first c.len.result line c.in_ok-group.field-0.line (party_of p)
    (map party_of rest) group behind groups old.claims.items mid.claims.items new.claims.items old.needs.items mid.needs.items
    new.needs.items (c.in_ok-group.ensures.does each.0) (c.in_ok-others.ensures.bodies each.1) next c.requires (omega (arith, c.len.ensures)) c.in_ok-put_first.ensures.groups in
    subst (λ (l : List Party). BodiesMade a all n first line (map party_of l) groups old.claims.items new.claims.items old.needs.items new.needs.items) (sym split) made

pub returns-clause-windows : goal.returns-clause-windows
returns-clause-windows t c = λ alone.
    let ps = c.args.parties.now in
    let split = one_first ps c.party-item.result c.in-len1-up.len_at_least c.party-item.is in
    let each = subst AreAlone split alone in
    c.in_ok-others.ensures.windows each.1 ∙ c.in_ok-group.ensures.windows each.0

pub returns-clause-by : goal.returns-clause-by
returns-clause-by t c =
    let ps = c.args.parties.now in
    let p = c.party-item.result in
    let rest = take (length ps - 1) (drop 1 ps) in
    let split = one_first ps p c.in-len1-up.len_at_least c.party-item.is in
    let a = algorithm_of c.args.algo.now in
    let all = map root_of c.args.roots.now in
    let n = c.args.beginning.number in
    let first = c.args.beginning.claim in
    let line = c.args.beginning.line in
    let old = c.args.certificate.now in
    let new = c.groups_from.new.certificate in
    let groups = c.in_ok-put_first.field-0.0.items in
    let next : c.in-Some.number ≡ n + 1 = omega (arith, c.in-Some.ensures) in
    let made = groups_first a all n c.in-Some.number first c.len.result line c.in_ok-group.field-0.line (placed_of p) (map placed_of rest) (party_of p) (map party_of rest)
    c.in_ok-group.field-0.group c.in_ok-others.others.0.items groups old c.group_at.new.certificate new c.in_ok-group.ensures.by c.in_ok-others.ensures.by next c.requires
    (omega (arith, c.len.ensures)) c.in_ok-put_first.ensures.groups in
    subst (λ (l : List Party). GroupsBy a all n first line (map placed_of l) (map party_of l) groups old new) (sym split) made

pub returns-clause-known : goal.returns-clause-known
returns-clause-known t c =
    let split = one_first c.args.parties.now c.party-item.result c.in-len1-up.len_at_least c.party-item.is in
    subst AreKnown (sym split) (c.in_ok-group.ensures.known, c.in_ok-others.ensures.known)
