use Rattle.lower.proofs.Counted.{counted}
use Rattle.lower.proofs.laws.placed_lines_are_counted.Goals as goal

pub returns : goal.returns
returns c = counted
