use Rattle.audit.proofs.OfVerdict.OfIndices.Sets.{set_indices}
use Rattle.audit.proofs.verdict.indices.set_are_indices.Goals as goal

pub returns : goal.returns
returns c = set_indices
