use Rattle.completeness.proofs.SaidCertificates.{certificates_fit_by_numbers}
use Rattle.completeness.proofs.said.certificates_fit_by_numbers.Goals as goal

pub returns : goal.returns
returns c = certificates_fit_by_numbers
