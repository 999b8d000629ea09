use Rattle.std.proofs.Common.{sym, subst, refl, inl, inr, Option}
use Rattle.std.specs.Prelude.{MatchOption}
use Rattle.algo.specs.View.{algorithm_of}
use Rattle.plan.specs.View.{plan_of}
use Rattle.plan.specs.Certificate.Certificate.{certificate_of}
use Rattle.soundness.specs.declared.outline.refusals.code.Flaw.{Flaw}
use Rattle.shares.specs.Before.{OwnLinesStand}
use Rattle.shares.specs.Made.{ErrorMeans}
use Rattle.shares.specs.declared.answer.SharesError.TheVariants.{Flaw as FlawTold}
use Rattle.audit.specs.Refused.{IsLacking, IsOfPieces}
use Rattle.audit.specs.Verdict.Shown.Wide.{HasOutput}
use Rattle.audit.proofs.Broken.{like_before, some_group}
use Rattle.audit.proofs.Told.{least_told, match_weaker}
use Rattle.audit.proofs.shared.flaw_before_broken.Goals as goal

pub flaw_before-requires-clause-some : goal.flaw_before-requires-clause-some
flaw_before-requires-clause-some c = some_group (plan_of c.args.plan.now).groups (algorithm_of c.args.algo.now).output c.args.number c.requires.number

pub flaw_before-requires-clause-drawn : goal.flaw_before-requires-clause-drawn
flaw_before-requires-clause-drawn c = c.plans_are_drawn.ensures (algorithm_of c.args.algo.now) (plan_of c.args.plan.now) (certificate_of c.args.cert.now) c.requires.named

pub flaw_before-requires-clause-own : goal.flaw_before-requires-clause-own
flaw_before-requires-clause-own c = like_before (plan_of c.args.plan.now) (certificate_of c.args.cert.now) c.args.broken c.requires.broken

pub returns : goal.returns
returns c =
    let a = algorithm_of c.args.algo.now in
    let p = plan_of c.args.plan.now in
    let d = certificate_of c.args.cert.now in
    let found = c.in_ok-found.found in
    let lacking = c.output_flaw-lacking.result in
    let Stand : Type 0 = OwnLinesStand p d c.args.broken.line in
    let Means : Flaw → Type 0 = λ f. ErrorMeans p d (FlawTold f) in
    subst (λ (o : Option Flaw). MatchOption o (Stand × HasOutput a p) (IsOfPieces a p d)) (sym c.least.ensures)
    (least_told (IsOfPieces a p d) found lacking Stand (HasOutput a p)
    (match_weaker found Stand Stand Means (IsOfPieces a p d) (λ s. s) (λ f means. inl (record { flaw = f; code_is = refl; line_is = refl; means = means })) c.in_ok-found.ensures)
    (match_weaker lacking (HasOutput a p) (HasOutput a p) (IsLacking a p d) (IsOfPieces a p d) (λ s. s) (λ f lacks. inr lacks) c.output_flaw-lacking.ensures))
