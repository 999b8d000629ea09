use Rattle.std.proofs.Common.{◌≡◌, ◌+◌, ◌-◌, List, length, map, take, drop, refl, sym, subst, arith}
use Rattle.plan.specs.Lists.{list_statements}
use Rattle.sched.specs.declared.nest.Nest.{Nest}
use Rattle.sched.specs.Skeleton.{nest_seen}
use Rattle.blocks.specs.declared.loading.Load.{Load}
use Rattle.blocks.specs.Loading.{load_of}
use Rattle.sched.specs.Stored.{formula_of, stored_of}
use Rattle.blocks.specs.Bodies.{IsNest}
use Rattle.blocks.specs.Making.{NestsMade}
use Rattle.blocks.proofs.Claimed.{nests_made}
use Rattle.sched.proofs.Claimed.{one_first}
use Rattle.blocks.proofs.group.Body.+whole_nests.Goals as goal

pub returns-in_ok-append-in-len1-up-clause-made : goal.returns-in_ok-append-in-len1-up-clause-made
returns-in_ok-append-in-len1-up-clause-made t c =
    let g = stored_of c.args.cast.root.now.stored.now in
    let fs = map formula_of c.args.cast.root.now.formulas.now in
    let r = c.args.cast.claimed.now in
    let old = c.args.self.now in
    let one = c.claim_whole.new.self in
    let new = c.whole_nests.new.self in
    let d = c.args.definition in
    let ns = c.args.nests.now in
    let n = c.nest-item.result in
    let rest = take (length ns - 1) (drop 1 ns) in
    let xs = c.in_ok-first-in-len1-up.first.items in
    let ys = c.in_ok-others-in-len1-up.others.items in
    let zs = c.append.new.self.items in
    let own = c.in_ok-claim_whole-in-len1-up in
    let here = subst (λ (l : List Load). IsNest g fs (map load_of l) d (nest_seen n) (list_statements xs)) c.deref.ensures.value c.in_ok-first-in-len1-up.ensures.made in
    let next : c.in-Some.next ≡ d + 1 = omega (arith, c.in-Some.ensures) in
    let made = nests_made g fs r d (nest_seen n) (map nest_seen rest) c.in-Some.next own.field-0
    (one.line - 1) xs ys zs old one new here own.ensures.claimed own.ensures.next own.ensures.numbered own.ensures.loaded own.ensures.needs own.ensures.windows
    c.in_ok-others-in-len1-up.ensures.made next c.in_ok-append-in-len1-up.ensures.items own.ensures.line refl in
    subst (λ (l : List Nest). NestsMade g fs r d (map nest_seen l) (list_statements zs) old new) (sym (one_first ns n c.in-len1-up.len_at_least c.nest-item.is)) made
