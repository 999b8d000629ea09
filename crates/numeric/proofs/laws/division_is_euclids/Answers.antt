use Rattle.std.proofs.Common.{refl}
use Rattle.numeric.proofs.Quotients.{divides, divides_only}
use Rattle.numeric.proofs.laws.division_is_euclids.Goals as goal

pub returns : goal.returns
returns c = record { is = divides; only = divides_only; by_zero = λ a. (refl, refl) }
