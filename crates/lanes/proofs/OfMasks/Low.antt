-- The low bits of a number are its remainder, and read with a sign they are the number wrapped to the type of their width.
use Rattle.std.proofs.Common.{◌≡◌, ◌%◌, ◌^◌, ◌<◌, refl, sym, ap, ◌∙◌, arith, ℤ, pos, negsuc, unsigned_abs, bit_and, w8, w16, w32, w64, to_z, of_z, SFits, ℕ}
use Rattle.std.specs.Int.{int_wrap, int_rem_euclid}
use Rattle.std.proofs.lemmas.Int.{ints, SFits-int_wrap, to_z-of_z}
use Rattle.std.proofs.lemmas.Nat.{and_mask}
use native.Mathlib.Nat.{mod-eq_of_lt}
use Rattle.numeric.specs.declared.ty.Ty.TheVariants.{U8, U16, U32, I8, I16, I32}
use Rattle.numeric.specs.Wrap.{IsOf, wrap, lowered}
use Rattle.numeric.proofs.Numbers.{rest_of_wrapped}
use Rattle.numeric.proofs.Wraps.{wrap_of_value}

-- the remainder of a number is that of its bits
rest_8 : (z : ℤ) → SFits w64 z → int_rem_euclid z (pos (2 ^ 8)) ≡ pos (of_z w64 z % 2 ^ 8)
rest_8 (pos a) h = refl
rest_8 (negsuc a) h = ap pos (omega (arith, h.sfits))

rest_16 : (z : ℤ) → SFits w64 z → int_rem_euclid z (pos (2 ^ 16)) ≡ pos (of_z w64 z % 2 ^ 16)
rest_16 (pos a) h = refl
rest_16 (negsuc a) h = ap pos (omega (arith, h.sfits))

rest_32 : (z : ℤ) → SFits w64 z → int_rem_euclid z (pos (2 ^ 32)) ≡ pos (of_z w64 z % 2 ^ 32)
rest_32 (pos a) h = refl
rest_32 (negsuc a) h = ap pos (omega (arith, h.sfits))

low_u8 : (z : ℤ) → SFits w64 z → pos (bit_and (of_z w64 z) 255) ≡ wrap U8 z
low_u8 z h =
    let r = of_z w64 z % 2 ^ 8 in
    let small : r < 2 ^ 8 = omega arith in
    ap pos (and_mask (of_z w64 z) 8) ∙ sym (wrap_of_value U8 (pos r) (record { from = omega (arith, ints); to = omega (arith, ints) }))
    ∙ ap (λ x. lowered U8 (pos x)) (mod-eq_of_lt small) ∙ ap (lowered U8) (sym (rest_8 z h))

low_u16 : (z : ℤ) → SFits w64 z → pos (bit_and (of_z w64 z) 65535) ≡ wrap U16 z
low_u16 z h =
    let r = of_z w64 z % 2 ^ 16 in
    let small : r < 2 ^ 16 = omega arith in
    ap pos (and_mask (of_z w64 z) 16) ∙ sym (wrap_of_value U16 (pos r) (record { from = omega (arith, ints); to = omega (arith, ints) }))
    ∙ ap (λ x. lowered U16 (pos x)) (mod-eq_of_lt small) ∙ ap (lowered U16) (sym (rest_16 z h))

low_u32 : (z : ℤ) → SFits w64 z → pos (bit_and (of_z w64 z) 4294967295) ≡ wrap U32 z
low_u32 z h =
    let r = of_z w64 z % 2 ^ 32 in
    let small : r < 2 ^ 32 = omega arith in
    ap pos (and_mask (of_z w64 z) 32) ∙ sym (wrap_of_value U32 (pos r) (record { from = omega (arith, ints); to = omega (arith, ints) }))
    ∙ ap (λ x. lowered U32 (pos x)) (mod-eq_of_lt small) ∙ ap (lowered U32) (sym (rest_32 z h))

within_i8 : (z : ℤ) → SFits w8 z → IsOf I8 z
within_i8 z h = record { from = omega (arith, ints); to = omega (arith, ints) }

within_i16 : (z : ℤ) → SFits w16 z → IsOf I16 z
within_i16 z h = record { from = omega (arith, ints); to = omega (arith, ints) }

within_i32 : (z : ℤ) → SFits w32 z → IsOf I32 z
within_i32 z h = record { from = omega (arith, ints); to = omega (arith, ints) }

wrapped_i8 : (z : ℤ) → int_wrap w8 z ≡ wrap I8 z
wrapped_i8 z =
    sym (wrap_of_value I8 (int_wrap w8 z) (within_i8 (int_wrap w8 z) (SFits-int_wrap w8 z)))
    ∙ ap (lowered I8) (rest_of_wrapped w8 z (2 ^ 8) 1 (omega arith) refl)

wrapped_i16 : (z : ℤ) → int_wrap w16 z ≡ wrap I16 z
wrapped_i16 z =
    sym (wrap_of_value I16 (int_wrap w16 z) (within_i16 (int_wrap w16 z) (SFits-int_wrap w16 z)))
    ∙ ap (lowered I16) (rest_of_wrapped w16 z (2 ^ 16) 1 (omega arith) refl)

wrapped_i32 : (z : ℤ) → int_wrap w32 z ≡ wrap I32 z
wrapped_i32 z =
    sym (wrap_of_value I32 (int_wrap w32 z) (within_i32 (int_wrap w32 z) (SFits-int_wrap w32 z)))
    ∙ ap (lowered I32) (rest_of_wrapped w32 z (2 ^ 32) 1 (omega arith) refl)

low_i8 : (z : ℤ) → SFits w64 z → to_z w8 (bit_and (of_z w64 z) 255) ≡ wrap I8 z
unfolding int_wrap
low_i8 z h = ap (to_z w8) (and_mask (of_z w64 z) 8) ∙ ap (λ x. to_z w8 (unsigned_abs x)) (sym (rest_8 z h)) ∙ wrapped_i8 z

low_i16 : (z : ℤ) → SFits w64 z → to_z w16 (bit_and (of_z w64 z) 65535) ≡ wrap I16 z
unfolding int_wrap
low_i16 z h = ap (to_z w16) (and_mask (of_z w64 z) 16) ∙ ap (λ x. to_z w16 (unsigned_abs x)) (sym (rest_16 z h)) ∙ wrapped_i16 z

low_i32 : (z : ℤ) → SFits w64 z → to_z w32 (bit_and (of_z w64 z) 4294967295) ≡ wrap I32 z
unfolding int_wrap
low_i32 z h = ap (to_z w32) (and_mask (of_z w64 z) 32) ∙ ap (λ x. to_z w32 (unsigned_abs x)) (sym (rest_32 z h)) ∙ wrapped_i32 z

-- the same of the bits b that the code reads of the number, and of what it makes of them
pub kept_u8 : (z : ℤ) → SFits w64 z → (b : ℕ) → b ≡ of_z w64 (to_z w64 (of_z w64 z)) → pos (bit_and b 255) ≡ wrap U8 z
kept_u8 z h b e = ap (λ x. pos (bit_and x 255)) (e ∙ ap (of_z w64) (to_z-of_z w64 z h)) ∙ low_u8 z h

pub kept_i8 : (z : ℤ) → SFits w64 z → (b : ℕ) → b ≡ of_z w64 (to_z w64 (of_z w64 z)) → (s : ℤ) → SFits w8 s → s ≡ to_z w8 (bit_and b 255)
    → to_z w8 (of_z w8 s) ≡ wrap I8 z
kept_i8 z h b e s f is =
    to_z-of_z w8 s f ∙ is ∙ ap (λ x. to_z w8 (bit_and x 255)) (e ∙ ap (of_z w64) (to_z-of_z w64 z h)) ∙ low_i8 z h

pub kept_u16 : (z : ℤ) → SFits w64 z → (b : ℕ) → b ≡ of_z w64 (to_z w64 (of_z w64 z)) → pos (bit_and b 65535) ≡ wrap U16 z
kept_u16 z h b e = ap (λ x. pos (bit_and x 65535)) (e ∙ ap (of_z w64) (to_z-of_z w64 z h)) ∙ low_u16 z h

pub kept_i16 : (z : ℤ) → SFits w64 z → (b : ℕ) → b ≡ of_z w64 (to_z w64 (of_z w64 z)) → (s : ℤ) → SFits w16 s → s ≡ to_z w16 (bit_and b 65535)
    → to_z w16 (of_z w16 s) ≡ wrap I16 z
kept_i16 z h b e s f is =
    to_z-of_z w16 s f ∙ is ∙ ap (λ x. to_z w16 (bit_and x 65535)) (e ∙ ap (of_z w64) (to_z-of_z w64 z h)) ∙ low_i16 z h

pub kept_u32 : (z : ℤ) → SFits w64 z → (b : ℕ) → b ≡ of_z w64 (to_z w64 (of_z w64 z)) → pos (bit_and b 4294967295) ≡ wrap U32 z
kept_u32 z h b e = ap (λ x. pos (bit_and x 4294967295)) (e ∙ ap (of_z w64) (to_z-of_z w64 z h)) ∙ low_u32 z h

pub kept_i32 : (z : ℤ) → SFits w64 z → (b : ℕ) → b ≡ of_z w64 (to_z w64 (of_z w64 z)) → (s : ℤ) → SFits w32 s → s ≡ to_z w32 (bit_and b 4294967295)
    → to_z w32 (of_z w32 s) ≡ wrap I32 z
kept_i32 z h b e s f is =
    to_z-of_z w32 s f ∙ is ∙ ap (λ x. to_z w32 (bit_and x 4294967295)) (e ∙ ap (of_z w64) (to_z-of_z w64 z h)) ∙ low_i32 z h
