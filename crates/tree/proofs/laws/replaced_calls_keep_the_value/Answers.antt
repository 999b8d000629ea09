use Rattle.tree.proofs.Substitution.{value_of-with_calls}
use Rattle.tree.proofs.laws.replaced_calls_keep_the_value.Goals as goal

pub returns : goal.returns
returns c variables answers others replacement a h = value_of-with_calls variables answers others replacement a h
