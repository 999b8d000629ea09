use Rattle.std.proofs.Common.{sym, subst, Option}
use Rattle.std.specs.Prelude.{MatchOption}
use Rattle.plan.specs.Plan.{Plan}
use Rattle.plan.specs.View.{plan_of}
use Rattle.plan.specs.Certificate.Certificate.{Certificate, certificate_of}
use Rattle.soundness.specs.declared.outline.refusals.code.Flaw.{Flaw}
use Rattle.shares.specs.declared.answer.SharesError.TheVariants.{Flaw as Told}
use Rattle.shares.specs.Before.{LineIsTold, OwnLinesStand}
use Rattle.shares.specs.Made.{ErrorMeans, LinesStand}
use Rattle.shares.proofs.Cutting.{kept_told, none_told}
use Rattle.shares.proofs.before.flaw_before.Goals as goal

pub returns-in-None : goal.returns-in-None
returns-in-None c =
    let p : Plan = plan_of c.args.plan.now in
    let cert : Certificate = certificate_of c.args.cert.now in
    let d : Certificate = certificate_of c.in_ok-kept.kept in
    let stand : LinesStand p d = rw c.in-None.is at c.in_ok-found.ensures in
    none_told p cert d c.args.line c.in_ok-kept.ensures stand

pub returns : goal.returns
returns c =
    let p : Plan = plan_of c.args.plan.now in
    let cert : Certificate = certificate_of c.args.cert.now in
    let d : Certificate = certificate_of c.in_ok-kept.kept in
    let told : LineIsTold p d c.in-Some.flaw = rw c.in-Some.is at c.in_ok-found.ensures in
    subst (λ (o : Option Flaw). MatchOption o (OwnLinesStand p cert c.args.line) (λ f. ErrorMeans p cert (Told f))) (sym c.told_before.ensures)
    (kept_told p cert d c.args.line c.in_ok-kept.ensures c.in-Some.flaw told)
