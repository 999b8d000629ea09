-- Numbers by their low bits.
use Rattle.std.specs.Prelude.{◌≡◌, ℕ, Bool, List, map, ℤ, pos, if◌then◌else◌}
use Rattle.numeric.specs.declared.ty.Ty.{Ty}
use Rattle.numeric.specs.declared.ty.Ty.TheVariants.{U32}
use Rattle.numeric.specs.Wrap.{wrap}
use Rattle.meaning.specs.Image.Raster.{natural}
use Rattle.interpreter.specs.declared.given.Words.{Words}

-- the lowest 32 bits of a number, in two's complement: what it is modulo 2^32
abbrev pub low_bits : ℤ → ℕ
low_bits z = natural (wrap U32 z)

-- numbers that stand apart, or those of a type that have these low bits
abbrev pub numbers_read : Bool → Ty → List ℕ → List ℤ → List ℤ
numbers_read apart t bits wides = if apart then wides else map (λ w. wrap t (pos w)) bits

abbrev pub numbers_of : Words → List ℤ
numbers_of x = numbers_read x.is_apart x.ty x.bits.items x.wides.items

-- the bits are those of the numbers
abbrev pub IsKept : Words → Type 0
IsKept x = x.bits.items ≡ map low_bits (numbers_of x)
