use Rattle.std.proofs.Common.{◌≡◌, refl, subst, inr, Option}
use Rattle.std.specs.Prelude.{IfOk, MatchOption}
use Rattle.lin.proofs.Limits.{if_ok}
use Rattle.plan.specs.View.{plan_of}
use Rattle.plan.specs.declared.plan.Plan.{Plan as CodePlan}
use Rattle.plan.specs.declared.certificate.cert.Cert.{Cert}
use Rattle.plan.specs.Certificate.Certificate.{certificate_of}
use Rattle.soundness.specs.declared.outline.refusals.code.Flaw.{Flaw}
use Rattle.shares.specs.Before.{LineIsTold}
use Rattle.shares.specs.Made.{LineMeans, LinesStand}
use Rattle.shares.proofs.Cutting.{line_is_told}
use Rattle.shares.proofs.before.first_line_flaw.Goals as goal

pub returns-in-Err : goal.returns-in-Err
returns-in-Err c = inr (refl, rw c.in-Err.is at c.in_ok-made.ensures.refused)

pub returns : goal.returns
returns c =
    let same : (c.in-Ok.layout.plan.now ≡ c.args.plan.now) × (c.in-Ok.layout.cert.now ≡ c.args.cert.now) = rw c.in-Ok.is at c.in_ok-made.ensures.plan in
    let Told : CodePlan → Cert → Type 0 = λ q d. IfOk c.line_flaw.result (λ found. MatchOption found (LinesStand (plan_of q) (certificate_of d)) (LineIsTold (plan_of q) (certificate_of d))) in
    let p = plan_of c.in-Ok.layout.plan.now in
    let d = certificate_of c.in-Ok.layout.cert.now in
    let told : Told c.in-Ok.layout.plan.now c.in-Ok.layout.cert.now =
    if_ok c.line_flaw.result (λ found. MatchOption found (LinesStand p d) (LineMeans p d)) (λ found. MatchOption found (LinesStand p d) (LineIsTold p d)) (line_is_told p d) c.line_flaw.ensures in
    subst (λ (q : CodePlan). Told q c.args.cert.now) same.0 (subst (λ (e : Cert). Told c.in-Ok.layout.plan.now e) same.1 told)
