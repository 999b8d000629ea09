use Rattle.std.proofs.Common.{sym, subst, refl, inl, inr}
use Rattle.algo.specs.View.{algorithm_of}
use Rattle.plan.specs.View.{plan_of}
use Rattle.plan.specs.Certificate.Certificate.{certificate_of}
use Rattle.soundness.specs.declared.outline.refusals.code.Flaw.{Flaw}
use Rattle.shares.specs.declared.answer.SharesError.{SharesError}
use Rattle.audit.specs.Refused.{AreOfPieces, IsBesidePieces, IsTold}
use Rattle.audit.specs.Stand.{IsFlaw}
use Rattle.audit.proofs.Told.{lesser_told, pieces_told}
use Rattle.audit.proofs.answer.told_with_shares.Goals.{in-Ok, in-Err-Memory, in-Err-Flaw}
use Rattle.audit.proofs.answer.told_with_shares.Goals as goal

pub returns-clause-told : goal.returns-clause-told
returns-clause-told c =
    let a = algorithm_of c.args.algo.now in
    let p = plan_of c.args.plan.now in
    let d = certificate_of c.args.cert.now in
    let Told : SharesError → Type 0 = λ e. IsTold a p d e in
    let IsRight : Flaw → Type 0 = λ f. IsFlaw a p d f in
    elim c.match-shares_with_output.branch [
      | in-Ok w ↦ subst Told (sym w.result-is) c.requires.flaw
      | in-Err-Memory w ↦ subst Told (sym w.result-is) tt
      | in-Err-Flaw w ↦
          let other = pieces_told a p d w.in-Err-Flaw.other (subst (AreOfPieces a p d) w.in-Err-Flaw.field-0-is w.in-Err-Flaw.ensures.told) in
          subst Told (sym w.result-is) (subst IsRight (sym w.lesser.ensures) (lesser_told IsRight c.args.flaw w.in-Err-Flaw.other c.requires.flaw other))
    ]

pub returns-clause-first : goal.returns-clause-first
returns-clause-first c =
    let a = algorithm_of c.args.algo.now in
    let p = plan_of c.args.plan.now in
    let d = certificate_of c.args.cert.now in
    let Beside : SharesError → Type 0 = λ e. IsBesidePieces a p d c.args.flaw e in
    elim c.match-shares_with_output.branch [
      | in-Ok w ↦ subst Beside (sym w.result-is) (inl ((w.in-Ok.ensures.shares, w.in-Ok.ensures.output), refl))
      | in-Err-Memory w ↦ subst Beside (sym w.result-is) tt
      | in-Err-Flaw w ↦
          subst Beside (sym w.result-is)
          (inr (w.in-Err-Flaw.other, subst (AreOfPieces a p d) w.in-Err-Flaw.field-0-is w.in-Err-Flaw.ensures.told, w.lesser.ensures))
    ]
