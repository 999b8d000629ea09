use Rattle.std.proofs.Common.{refl}
use Rattle.headline.proofs.laws.worked_examples.Goals as goal

pub returns-clause-increment : goal.returns-clause-increment
returns-clause-increment c = (refl, refl, refl, refl, refl, refl, refl, refl, refl)

pub returns-clause-sums : goal.returns-clause-sums
returns-clause-sums c = (refl, refl, refl, refl, refl, refl, refl, refl, refl, refl, refl)
