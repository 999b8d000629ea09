-- The bits of values and of samples.
use Rattle.std.proofs.Common.{◌≡◌, ℕ, ◌^◌, ◌<◌, ◌≤◌, ℤ, pos, negsuc, arith, ap}
use Rattle.std.specs.Prelude.{◌≤ℤ◌}
use Rattle.std.proofs.lemmas.Int.{ints}
use Rattle.numeric.specs.declared.ty.Ty.{Ty}
use Rattle.numeric.specs.declared.ty.Ty.TheVariants.{U8, U16, U32, I8, I16, I32}
use Rattle.numeric.specs.Wrap.{IsOf, wrap}
use Rattle.numeric.proofs.Wraps.{wraps_to, wrap_of_value}
use Rattle.meaning.specs.Image.Raster.{natural}
use Rattle.meaning.specs.Image.View.{IsSampleType}
use Rattle.board.specs.Words.{bits_of}

natural_most : (z : ℤ) (m : ℕ) → z ≤ℤ pos m → natural z ≤ m
natural_most (pos n) m h = omega (arith, ints)
natural_most (negsuc n) m h = omega arith

-- a number's bits are below 2^32
pub bits_below : (value : ℤ) → bits_of value < 2 ^ 32
bits_below value =
    let w = wraps_to U32 value in
    let most : bits_of value ≤ 4294967295 = natural_most (wrap U32 value) 4294967295 w.within.to in
    omega arith

-- a number that is not too large keeps its bits
small_bits : (z : ℤ) (m : ℕ) → m ≤ 65535 → pos 0 ≤ℤ z → z ≤ℤ pos m → (bits_of z ≡ natural z) × (natural z ≤ m)
small_bits z m few from to =
    let most : natural z ≤ m = natural_most z m to in
    (ap natural (wrap_of_value U32 z (record { from = from; to = omega (arith, ints) })), most)

-- the bits of a sample are the sample, and below 2^16
pub sample_bits : (t : Ty) (z : ℤ) → IsSampleType t → IsOf t z → (bits_of z ≡ natural z) × (natural z ≤ 65535)
sample_bits U8 z _ h = let small = small_bits z 255 (omega arith) h.from h.to in let most = small.1 in (small.0, omega (arith, most))
sample_bits U16 z _ h = small_bits z 65535 (omega arith) h.from h.to
sample_bits U32 z none h = absurd none
sample_bits I8 z none h = absurd none
sample_bits I16 z none h = absurd none
sample_bits I32 z none h = absurd none

-- those of a sample of a byte are below 2^8
pub byte_bits : (z : ℤ) → IsOf U8 z → bits_of z < 2 ^ 8
byte_bits z h = let small = small_bits z 255 (omega arith) h.from h.to in let same = small.0 in let most = small.1 in omega (arith, same, most)
