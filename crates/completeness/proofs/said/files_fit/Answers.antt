use Rattle.completeness.proofs.SaidFiles.{files_fit}
use Rattle.completeness.proofs.said.files_fit.Goals as goal

pub returns : goal.returns
returns c = files_fit
