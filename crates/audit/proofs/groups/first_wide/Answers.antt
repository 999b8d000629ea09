use Rattle.std.proofs.Common.{rules, ◌≡◌, length, arith}
use Rattle.std.proofs.lemmas.List.{length-map}
use Rattle.algo.specs.View.{algorithm_of}
use Rattle.plan.specs.View.{plan_of, group_of}
use Rattle.plan.specs.Certificate.Certificate.{certificate_of}
use Rattle.audit.proofs.Told.{narrow_all, narrow_more, first_all, first_more, group_there}
use Rattle.audit.proofs.groups.first_wide.Goals as goal

pub loop-number-init : goal.loop-number-init
loop-number-init c = ((λ n g less at. absurd (omega (arith, less))), (λ n g less at wide first. absurd (omega (arith, less))))

pub loop-number-preserved : goal.loop-number-preserved
loop-number-preserved c =
    let count : c.len-count.result ≡ length c.args.plan.now.groups.items = search rules in
    let x = group_there c.args.plan.now.groups.items c.loop-number.number (omega (arith, count, c.loop-number-test.true)) in
    let said = c.in_ok-flaw.ensures x.0 x.1 in
    let before = c.loop-number.invariant in
    let a = algorithm_of c.args.algo.now in
    let p = plan_of c.args.plan.now in
    let cert = certificate_of c.args.cert.now in (
      narrow_more a p cert c.loop-number.number x.0 x.1 c.loop-number.found c.in_ok-flaw.flaw c.least-found.result said.0 before.0 c.least-found.ensures,
      first_more a p cert c.loop-number.number x.0 x.1 c.loop-number.found c.in_ok-flaw.flaw c.least-found.result said.1 before.1 c.least-found.ensures,
    )

pub returns-clause-told : goal.returns-clause-told
returns-clause-told c =
    let count : c.len-count.result ≡ length c.args.plan.now.groups.items = search rules in
    let long = length-map c.args.plan.now.groups.items group_of in
    let before = c.loop-number.invariant in
    narrow_all (algorithm_of c.args.algo.now) (plan_of c.args.plan.now) (certificate_of c.args.cert.now) c.loop-number.number c.loop-number.found
    (omega (arith, count, long, c.loop-number-test.false)) before.0

pub returns-clause-first : goal.returns-clause-first
returns-clause-first c =
    let count : c.len-count.result ≡ length c.args.plan.now.groups.items = search rules in
    let long = length-map c.args.plan.now.groups.items group_of in
    let before = c.loop-number.invariant in
    first_all (algorithm_of c.args.algo.now) (plan_of c.args.plan.now) (certificate_of c.args.cert.now) c.loop-number.number c.loop-number.found
    (omega (arith, count, long, c.loop-number-test.false)) before.1
