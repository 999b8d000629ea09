use Rattle.std.proofs.Common.{◌≡◌, ◌∙◌, subst, ℕ, List, inr}
use Rattle.std.proofs.lemmas.Result.{err_from_is_err_and}
use Rattle.plan.specs.View.{plan_of}
use Rattle.plan.specs.Certificate.Certificate.{certificate_of}
use Rattle.spelling.specs.Lines.Texts.{IsTextOf, IsRefused}
use Rattle.cert.specs.Notation.{certificate_notation}
use Rattle.cert.proofs.Numbered.{not_capped}
use Rattle.cert.proofs.file.file.read.Goals as goal

pub returns-in_err-cert-clause-refused : goal.returns-in_err-cert-clause-refused
returns-in_err-cert-clause-refused c =
    let p = err_from_is_err_and c.from_residual-in_err-cert.result c.from_residual-in_err-cert.ensures.1 in
    let said = c.in_ok-plan.ensures.said in
    let line = c.certificate_line.ensures ∙ not_capped c.cut.result.0.now (plan_of c.in_ok-plan.plan) c.lines_are_counted.ensures said in
    let Refused : ℕ → Type 0 = λ n. IsRefused certificate_notation n c.cut.result.1.now p.0 in
    let refused : Refused c.certificate_line.result = rw p.2 c.in_err-cert.ensures.refused in
    rw p.1 (record {
      front = c.cut.result.0.now;
      back = c.cut.result.1.now;
      cut = c.cut.ensures;
      refused = inr (record { plan = plan_of c.in_ok-plan.plan; plan_text = said; refused = subst Refused line refused });
    })

pub returns-clause-said : goal.returns-clause-said
returns-clause-said c =
    let said = c.in_ok-plan.ensures.said in
    let line = c.certificate_line.ensures ∙ not_capped c.cut.result.0.now (plan_of c.in_ok-plan.plan) c.lines_are_counted.ensures said in
    let Said : ℕ → Type 0 = λ n. IsTextOf certificate_notation n c.cut.result.1.now (certificate_of c.in_ok-cert.cert) in
    record {
      front = c.cut.result.0.now;
      back = c.cut.result.1.now;
      cut = c.cut.ensures;
      plan_text = said;
      certificate_text = subst Said line c.in_ok-cert.ensures.said;
    }
