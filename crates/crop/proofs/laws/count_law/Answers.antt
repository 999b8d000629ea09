use Rattle.crop.proofs.Counts.{count_law}
use Rattle.crop.proofs.laws.count_law.Goals as goal

pub returns : goal.returns
returns c = count_law
