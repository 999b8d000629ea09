use Rattle.completeness.proofs.VectorLines.{fit}
use Rattle.completeness.proofs.laws.vectors_fit.Goals as goal

pub returns : goal.returns
returns c = fit
