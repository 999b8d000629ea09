use Rattle.numeric.proofs.Comparisons.{extremes, exact}
use Rattle.numeric.proofs.laws.extremes_are_of_numbers.Goals as goal

pub returns-clause-numbers : goal.returns-clause-numbers
returns-clause-numbers c = extremes

pub returns-clause-exact : goal.returns-clause-exact
returns-clause-exact c = exact
