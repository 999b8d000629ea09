-- What is read of a plan file, and why one is refused.
use Rattle.std.specs.Prelude.{ℕ, List, ⊤}
use Rattle.meaning.specs.Algorithm.{Algorithm}
use Rattle.plan.specs.declared.plan.Plan.{Plan as PlanMade}
use Rattle.plan.specs.View.{plan_of}
use Rattle.plan.specs.declared.certificate.cert.Cert.{Cert}
use Rattle.plan.specs.Certificate.Certificate.{certificate_of}
use Rattle.spelling.specs.declared.lines.error.TextError.TheVariants as read
use Rattle.cert.specs.File.File.{IsFileOf, IsRefusedFile}
use Rattle.headline.specs.Headline.{Headline}
use Rattle.audit.specs.Refused.{Accepts, IsRefused}
use Rattle.soundness.specs.declared.outline.refusals.code.K.{K}
use Rattle.audit.specs.declared.refusal.CheckError.TheVariants as check
use Rattle.commands.specs.declared.pipeline.fault.Fault.{Fault}
use Rattle.commands.specs.declared.pipeline.fault.Fault.TheVariants.{Memory, Form, Limit, Plan}

-- the text says this plan and this certificate, and they are right for the algorithm
pub record IsAccepted (a : Algorithm) (text : List ℕ) (plan : PlanMade) (cert : Cert) : Type 0 where
  pub file : IsFileOf text (plan_of plan) (certificate_of cert)
  pub accepted : Accepts a (plan_of plan) (certificate_of cert)
  pub headline : Headline a (plan_of plan) (certificate_of cert)

-- the text says a plan that the checker accepts
abbrev pub HasPlan : Algorithm → List ℕ → Type 0
HasPlan a text = (plan : PlanMade) × (cert : Cert) × IsAccepted a text plan cert

-- the text says a plan that is rightly refused with this code and line
pub record IsWrong (a : Algorithm) (text : List ℕ) (code : K) (line : ℕ) : Type 0 where
  pub plan : PlanMade
  pub cert : Cert
  pub file : IsFileOf text (plan_of plan) (certificate_of cert)
  pub refused : IsRefused a (plan_of plan) (certificate_of cert) (check.Refused code line)

-- why a plan file is refused; want of memory says nothing
abbrev pub IsFileRefused : Algorithm → List ℕ → Fault → Type 0
IsFileRefused a text Memory = ⊤
IsFileRefused a text (Form line) = IsRefusedFile text (read.Form line)
IsFileRefused a text (Limit line) = IsRefusedFile text (read.Limit line)
IsFileRefused a text (Plan code line) = IsWrong a text code line
IsFileRefused a text _ = ⊥
