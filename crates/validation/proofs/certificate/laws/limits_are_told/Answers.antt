use Rattle.validation.proofs.CertificateLines.{limits_told}
use Rattle.validation.proofs.certificate.laws.limits_are_told.Goals as goal

pub returns : goal.returns
returns c = limits_told
