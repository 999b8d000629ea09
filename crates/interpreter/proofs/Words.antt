-- The lowest 32 bits of a number wrap to what the number does, and a number whose bits make a small one fits a type without a sign.
use Rattle.std.proofs.Common.{◌≡◌, ◌-◌, ◌%◌, ◌^◌, ◌≤ℤ◌, ap, arith, ℕ, ℤ, pos, negsuc, unsigned_abs, w64, of_z, SFits}
use Rattle.std.specs.Int.{int_rem_euclid}
use Rattle.std.proofs.lemmas.Int.{ints}
use Rattle.numeric.specs.declared.ty.Ty.{Ty}
use Rattle.numeric.specs.declared.ty.Ty.TheVariants.{U8, U16, U32, I8, I16, I32}
use Rattle.numeric.specs.Wrap.{IsOf, greatest, least, wrap, lowered, modulus}

-- the remainder of a remainder by a multiple
rest_8 : (z : ℤ) (w : ℕ) → pos w ≡ int_rem_euclid z (pos (2 ^ 32)) → int_rem_euclid (pos w) (pos (2 ^ 8)) ≡ int_rem_euclid z (pos (2 ^ 8))
rest_8 (pos a) w e = let f : w ≡ a % 2 ^ 32 = ap unsigned_abs e in ap pos (omega (arith, f))
rest_8 (negsuc a) w e = let f : w ≡ 2 ^ 32 - 1 - a % 2 ^ 32 = ap unsigned_abs e in ap pos (omega (arith, f))

rest_16 : (z : ℤ) (w : ℕ) → pos w ≡ int_rem_euclid z (pos (2 ^ 32)) → int_rem_euclid (pos w) (pos (2 ^ 16)) ≡ int_rem_euclid z (pos (2 ^ 16))
rest_16 (pos a) w e = let f : w ≡ a % 2 ^ 32 = ap unsigned_abs e in ap pos (omega (arith, f))
rest_16 (negsuc a) w e = let f : w ≡ 2 ^ 32 - 1 - a % 2 ^ 32 = ap unsigned_abs e in ap pos (omega (arith, f))

rest_all : (z : ℤ) (w : ℕ) → pos w ≡ int_rem_euclid z (pos (2 ^ 32)) → int_rem_euclid (pos w) (pos (2 ^ 32)) ≡ int_rem_euclid z (pos (2 ^ 32))
rest_all (pos a) w e = let f : w ≡ a % 2 ^ 32 = ap unsigned_abs e in ap pos (omega (arith, f))
rest_all (negsuc a) w e = let f : w ≡ 2 ^ 32 - 1 - a % 2 ^ 32 = ap unsigned_abs e in ap pos (omega (arith, f))

rest_of_word : (t : Ty) (z : ℤ) (w : ℕ) → pos w ≡ int_rem_euclid z (pos (2 ^ 32)) → int_rem_euclid (pos w) (modulus t) ≡ int_rem_euclid z (modulus t)
rest_of_word U8 z w e = rest_8 z w e
rest_of_word U16 z w e = rest_16 z w e
rest_of_word U32 z w e = rest_all z w e
rest_of_word I8 z w e = rest_8 z w e
rest_of_word I16 z w e = rest_16 z w e
rest_of_word I32 z w e = rest_all z w e

-- a number and its lowest 32 bits wrap to the same
pub wrap_of_word : (t : Ty) (z : ℤ) (w : ℕ) → pos w ≡ int_rem_euclid z (pos (2 ^ 32)) → wrap t (pos w) ≡ wrap t z
wrap_of_word t z w e = ap (lowered t) (rest_of_word t z w e)

-- a word and its lowest 8 bits wrap to the same byte
pub wrap_of_byte : (w : ℕ) → wrap U8 (pos (w % 2 ^ 8)) ≡ wrap U8 (pos w)
wrap_of_byte w =
    let same : w % 2 ^ 8 % 2 ^ 8 ≡ w % 2 ^ 8 = omega arith in
    ap (λ (b : ℕ). lowered U8 (pos b)) same

-- a number whose bits make one of at most the greatest value of a type without a sign is a value of it
pub natural_fits : (t : Ty) (z : ℤ) → SFits w64 z → least t ≡ pos 0 → pos (of_z w64 z) ≤ℤ greatest t → IsOf t z
natural_fits t (pos a) f none le = record { from = omega (arith, ints, none); to = le }
natural_fits U8 (negsuc a) f none le = absurd (omega (arith, ints, le, f.sfits))
natural_fits U16 (negsuc a) f none le = absurd (omega (arith, ints, le, f.sfits))
natural_fits U32 (negsuc a) f none le = absurd (omega (arith, ints, le, f.sfits))
natural_fits I8 (negsuc a) f none le = absurd (omega (arith, ints, none))
natural_fits I16 (negsuc a) f none le = absurd (omega (arith, ints, none))
natural_fits I32 (negsuc a) f none le = absurd (omega (arith, ints, none))
