use Rattle.tree.proofs.Substitution.{value_of-substituted}
use Rattle.tree.proofs.laws.substitution_is_update.Goals as goal

pub returns : goal.returns
returns c variables answers map a h = value_of-substituted variables answers map h a
