-- Divisors of 16 bits, by which numbers of 16 bits are divided by a product alone.
use Rattle.std.specs.Prelude.{ℕ, ◌+◌, ◌*◌, ◌<◌, ◌≤◌, ◌^◌, ℤ, pos, ◌≤ℤ◌, ◌<ℤ◌}

-- a number of 16 bits without a sign
pub record IsSmall (z : ℤ) : Type 0 where
  pub from : pos 0 ≤ℤ z
  pub below : z <ℤ pos (2 ^ 16)

-- a number that is less than one above 2 to the 32 divided by a divisor of 16 bits
pub record IsReciprocal (m d : ℕ) : Type 0 where
  pub some : 0 < d
  pub few : d ≤ 2 ^ 16
  pub low : 2 ^ 32 ≤ m * d
  pub high : m * d < 2 ^ 32 + d

-- a factor of 16 bits, and how many bits of its product with a number of 16 bits lie below the quotient by the divisor
pub record IsShortReciprocal (m s d : ℕ) : Type 0 where
  pub some : 0 < d
  pub factor : m ≤ 2 ^ 16
  pub shift : s < 32
  pub low : 2 ^ s ≤ m * d
  pub high : m * d * 2 ^ 16 < 2 ^ s * 2 ^ 16 + 2 ^ s
