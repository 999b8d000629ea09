use Rattle.std.proofs.Common.{refl, inl, subst}
use Rattle.algo.specs.View.{algorithm_of}
use Rattle.plan.specs.View.{plan_of}
use Rattle.plan.specs.Certificate.Certificate.{certificate_of}
use Rattle.soundness.specs.Outline.Refusals.Codes.{number_of}
use Rattle.shares.specs.declared.answer.SharesError.{SharesError}
use Rattle.audit.specs.Verdict.Faults.{IsFault}
use Rattle.audit.specs.Refused.{IsTold}
use Rattle.audit.proofs.checking.check.Goals as goal

pub returns-in-Some-clause-refused : goal.returns-in-Some-clause-refused
returns-in-Some-clause-refused g c =
    let a = algorithm_of c.args.algo.now in
    let p = plan_of c.args.plan in
    let d = certificate_of c.args.cert in
    let fault : IsFault a p d 1 c.in-Some.line = inl (record { code_is = refl; fails = c.in-Some.ensures.head }) in
    (fault, c.faults_are_refusals.ensures a p d 1 c.in-Some.line fault)

pub of-requires-clause-ready : goal.of-requires-clause-ready
of-requires-clause-ready g c = c.accepted_is_ready.ensures (algorithm_of c.args.algo.now) (plan_of c.args.plan) (certificate_of c.args.cert) c.is_well_formed.ensures c.in-Ok.ensures.accepted

pub returns-clause-refused : goal.returns-clause-refused
returns-clause-refused g c =
    let a = algorithm_of c.args.algo.now in
    let p = plan_of c.args.plan in
    let d = certificate_of c.args.cert in
    let f = c.in-Err-Flaw.flaw in
    let fault = subst (λ (e : SharesError). IsTold a p d e) c.in-Err-Flaw.field-0-is c.in-Err-Flaw.ensures.told in
    (fault, c.faults_are_refusals.ensures a p d (number_of f.code) f.line fault)
