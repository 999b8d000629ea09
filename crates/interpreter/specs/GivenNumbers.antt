-- The numbers that a run gives: in bytes as long as all are of u8 and fit it, and else in words.
use Rattle.std.specs.Prelude.{◌≤◌, ℕ, ℤ, List, length, map, pos, vec_capacity, if◌then◌else◌}
use Rattle.numeric.specs.Wrap.{wrap}
use Rattle.numeric.specs.declared.ty.Ty.TheVariants.{U8}
use Rattle.interpreter.specs.LowBits.{numbers_of, IsKept}
use Rattle.interpreter.specs.declared.given.GivenBits.{GivenBits}
use Rattle.interpreter.specs.declared.given.GivenBits.TheVariants.{Bytes, Words}
use Rattle.interpreter.specs.declared.given.Numbers.{Numbers}

-- the low bits, however they are kept
abbrev pub given_list : GivenBits → List ℕ
given_list (Bytes bytes) = bytes.now
given_list (Words words) = words.now

-- the numbers of u8 that the bytes are, or those of the words
abbrev pub numbers_in : Numbers → List ℤ
numbers_in x = if x.in_bytes then map (λ w. wrap U8 (pos w)) x.bytes.items else numbers_of x.words

-- there is room for so many, in bytes and in words, and there are no more
abbrev pub HasRoom : Numbers → Type 0
HasRoom x = (x.room ≤ vec_capacity x.bytes) × (x.room ≤ vec_capacity x.words.bits) × (x.room ≤ vec_capacity x.words.wides) × IsKept x.words × (length (numbers_in x) ≤ x.room)
