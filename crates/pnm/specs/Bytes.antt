-- The bytes of an image file, and the numbers in it.
use Rattle.std.specs.Prelude.{ℕ, ◌+◌, ◌-◌, ◌*◌, ◌^◌, Bool, ◌&&◌, ◌||◌, ◌==◌, nat_le, min}

-- a blank, TAB, CR or LF
abbrev pub is_space : ℕ → Bool
is_space b = (b == 32) || (b == 9) || (b == 13) || (b == 10)

-- CR or LF
abbrev pub ends_comment : ℕ → Bool
ends_comment b = (b == 13) || (b == 10)

abbrev pub is_digit : ℕ → Bool
is_digit b = nat_le 48 b && nat_le b 57

-- the number that a further digit makes of one, up to a bound that is above every number of an image
abbrev pub grown : ℕ → ℕ → ℕ
grown n b = min (n * 10 + (b - 48)) (2 ^ 32 - 1)
