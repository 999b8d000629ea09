-- Plan files: what they say, and why a text is none.
use Rattle.std.specs.Prelude.{◌≡◌, ◌⊎◌, ℕ, List}
use Rattle.plan.specs.Plan.{Plan}
use Rattle.plan.specs.Lines.{certificate_line}
use Rattle.plan.specs.Certificate.Certificate.{Certificate}
use Rattle.spelling.specs.declared.lines.error.TextError.{TextError}
use Rattle.spelling.specs.Lines.Texts.{IsTextOf, IsRefused}
use Rattle.nest.specs.Notation.{plan_notation}
use Rattle.cert.specs.Notation.{certificate_notation}
use Rattle.cert.specs.File.Cut.{IsCut}

-- the lines before the first line `cert` are the plan's text, and those from it on the certificate's
pub record IsFileOf (text : List ℕ) (plan : Plan) (certificate : Certificate) : Type 0 where
  pub front : List ℕ
  pub back : List ℕ
  pub cut : IsCut text front back
  pub plan_text : IsTextOf plan_notation 1 front plan
  pub certificate_text : IsTextOf certificate_notation (certificate_line plan) back certificate

-- the text in front is a plan's, and the rest is no certificate's
pub record CertificateRefused (front back : List ℕ) (error : TextError) : Type 0 where
  pub plan : Plan
  pub plan_text : IsTextOf plan_notation 1 front plan
  pub refused : IsRefused certificate_notation (certificate_line plan) back error

-- why the text is no plan file: the first bad line of the plan's text, or else of the certificate's
pub record IsRefusedFile (text : List ℕ) (error : TextError) : Type 0 where
  pub front : List ℕ
  pub back : List ℕ
  pub cut : IsCut text front back
  pub refused : IsRefused plan_notation 1 front error ⊎ CertificateRefused front back error

-- each text is the file of one plan with one certificate at most
abbrev pub OneFile : Type 0
OneFile = (text : List ℕ) (p q : Plan) (c d : Certificate) → IsFileOf text p c → IsFileOf text q d → (p ≡ q) × (c ≡ d)
