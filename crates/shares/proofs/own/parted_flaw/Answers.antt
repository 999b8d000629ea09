use Rattle.std.proofs.Common.{◌≡◌, ◌∙◌, ◌+◌, ◌<◌, ℕ, length, arith, ap, sym, subst}
use Rattle.std.proofs.lemmas.List.{length-map}
use Rattle.soundness.specs.Outline.Refusals.Codes.{least}
use Rattle.plan.specs.Plan.{Plan}
use Rattle.plan.specs.View.{plan_of, group_of}
use Rattle.plan.specs.Certificate.Certificate.{Certificate, certificate_of}
use Rattle.shares.specs.Owned.{IsFirstFlaw}
use Rattle.shares.proofs.Firsts.{first_more}
use Rattle.shares.proofs.own.parted_flaw.Goals as goal

pub loop-group-preserved : goal.loop-group-preserved
loop-group-preserved c =
    let x = c.args.layout.now in
    let p : Plan = plan_of x.plan.now in
    let cert : Certificate = certificate_of x.cert.now in
    subst (IsFirstFlaw p cert (c.loop-group.group + 1)) (sym c.least-told.ensures)
    (first_more p cert c.loop-group.group c.loop-group.told c.flaw_at.result c.in_ok-code.code c.loop-group.invariant c.in_ok-code.ensures c.flaw_at.ensures)

pub returns : goal.returns
returns c =
    let x = c.args.layout.now in
    let p : Plan = plan_of x.plan.now in
    let cert : Certificate = certificate_of x.cert.now in
    let same = ap length c.as_slice-group-end.ensures.value in
    let all = c.requires.layout.grounds.count in
    let long = length-map x.plan.now.groups.items group_of in
    let end = c.loop-group.auto.group-end in
    let is : c.loop-group.group ≡ length p.groups = omega (arith, c.loop-group-test.false, end, same, all, long) in
    subst (λ (n : ℕ). IsFirstFlaw p cert n c.loop-group.told) is c.loop-group.invariant

pub code_of_parted-requires-clause-parted : goal.code_of_parted-requires-clause-parted
code_of_parted-requires-clause-parted c = c.requires.parted c.loop-group.group
