use Rattle.numeric.proofs.Comparisons.{comparisons}
use Rattle.numeric.proofs.laws.comparisons_are_of_numbers.Goals as goal

pub returns : goal.returns
returns c = comparisons
