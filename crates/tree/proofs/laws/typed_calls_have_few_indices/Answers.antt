use Rattle.tree.proofs.Soundness.{few_indices}
use Rattle.tree.proofs.laws.typed_calls_have_few_indices.Goals as goal

pub returns : goal.returns
returns c known functions few a h = few_indices known functions few a h
