-- The quotient by -1, the one quotient of two 64-bit numbers that may not fit.
use Rattle.std.proofs.Common.{◌≡◌, arith, ℤ, pos, negsuc, neg_ℤ}
use Rattle.std.proofs.lemmas.Int.{ints}
use Rattle.numeric.specs.Apply.{quotient}

pub quotient_by_minus_one : (a : ℤ) → quotient a (negsuc 0) ≡ neg_ℤ a
quotient_by_minus_one (pos a) = omega (arith, ints)
quotient_by_minus_one (negsuc a) = omega (arith, ints)
