use Rattle.audit.proofs.OfVerdict.OfIndices.Given.{given_indices}
use Rattle.audit.proofs.verdict.indices.given_are_indices.Goals as goal

pub returns : goal.returns
returns c = given_indices
