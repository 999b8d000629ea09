use Rattle.tree.proofs.Substitution.{type_of-substituted}
use Rattle.tree.proofs.laws.substitution_keeps_the_type.Goals as goal

pub returns : goal.returns
returns c known before functions map h a = type_of-substituted known before functions map h a
