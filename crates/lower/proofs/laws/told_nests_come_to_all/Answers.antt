use Rattle.lower.proofs.Guards.{told_nests_come_to_all}
use Rattle.lower.proofs.laws.told_nests_come_to_all.Goals as goal

pub returns : goal.returns
returns c = told_nests_come_to_all
