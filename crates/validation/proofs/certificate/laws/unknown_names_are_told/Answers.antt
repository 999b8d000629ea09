use Rattle.validation.proofs.CertificateLines.{unknown_told}
use Rattle.validation.proofs.certificate.laws.unknown_names_are_told.Goals as goal

pub returns : goal.returns
returns c = unknown_told
