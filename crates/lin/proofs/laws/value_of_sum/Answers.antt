use Rattle.lin.proofs.TermLemmas.{value_of-plus_multiple}
use Rattle.lin.proofs.laws.value_of_sum.Goals as goal

pub returns : goal.returns
returns c = value_of-plus_multiple
