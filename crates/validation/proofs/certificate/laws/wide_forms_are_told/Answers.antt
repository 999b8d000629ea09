use Rattle.validation.proofs.CertificateLines.{wide_told}
use Rattle.validation.proofs.certificate.laws.wide_forms_are_told.Goals as goal

pub returns : goal.returns
returns c = wide_told
