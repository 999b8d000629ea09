use Rattle.std.proofs.Common.{sym, subst, refl, inl, inr}
use Rattle.algo.specs.View.{algorithm_of}
use Rattle.plan.specs.View.{plan_of}
use Rattle.plan.specs.Certificate.Certificate.{certificate_of}
use Rattle.headline.specs.Work.{work_of}
use Rattle.shares.specs.Made.{ErrorMeans}
use Rattle.shares.specs.declared.answer.SharesError.{SharesError}
use Rattle.audit.proofs.OutputGroup.{lists_same}
use Rattle.audit.specs.Refused.{IsOfPieces}
use Rattle.audit.proofs.Told.{lesser_told}
use Rattle.audit.proofs.shared.shares_with_output.Goals as goal

pub shares_of-requires : goal.shares_of-requires
shares_of-requires c =
    let a = algorithm_of c.args.algo.now in
    let p = plan_of c.args.plan.now in
    let d = certificate_of c.args.cert.now in
    c.plans_are_shared.ensures a p d c.requires.named (c.no_region_flaw_is_shared.ensures p d c.requires.regions)

pub returns-in-None-clause-lists : goal.returns-in-None-clause-lists
returns-in-None-clause-lists c = λ samples.
    let a = algorithm_of c.args.algo.now in
    lists_same (work_of a (plan_of c.args.plan.now) (certificate_of c.args.cert.now) samples) c.in-Ok.shares.pieces.items (c.in-Ok.ensures.lists a samples)

pub returns-in-Some-lacking-clause-told : goal.returns-in-Some-lacking-clause-told
returns-in-Some-lacking-clause-told c =
    let a = algorithm_of c.args.algo.now in
    let p = plan_of c.args.plan.now in
    let d = certificate_of c.args.cert.now in
    let means = subst (λ (e : SharesError). ErrorMeans p d e) c.in-Err-Flaw.field-0-is c.in-Err-Flaw.ensures.flaw in
    subst (IsOfPieces a p d) (sym c.lesser.ensures)
    (lesser_told (IsOfPieces a p d) c.in-Err-Flaw.flaw c.in-Some-lacking.other
    (inl (record { flaw = c.in-Err-Flaw.flaw; code_is = refl; line_is = refl; means = means }))
    (inr c.in-Some-lacking.ensures))
