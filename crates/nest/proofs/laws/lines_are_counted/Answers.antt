use Rattle.nest.proofs.Counts.{lines_counted}
use Rattle.nest.proofs.laws.lines_are_counted.Goals as goal

pub returns : goal.returns
returns c = lines_counted
