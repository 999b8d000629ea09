use Rattle.tree.proofs.Substitution.{type_of-with_calls}
use Rattle.tree.proofs.laws.replaced_calls_keep_the_type.Goals as goal

pub returns : goal.returns
returns c known functions before replacement a h = type_of-with_calls known functions before replacement a h
