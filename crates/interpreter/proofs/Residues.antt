-- The lowest bits of a number are its remainder.
use Rattle.std.proofs.Common.{◌≡◌, ◌%◌, ◌^◌, refl, sym, ap, ◌∙◌, arith, ℕ, ℤ, pos, negsuc, bit_and, w64, to_z, of_z, SFits}
use Rattle.std.specs.Int.{int_rem_euclid}
use Rattle.std.proofs.lemmas.Int.{to_z-of_z, to_z_pos}
use Rattle.std.proofs.lemmas.Nat.{and_mask, and_le_r}

rest_8 : (z : ℤ) → SFits w64 z → int_rem_euclid z (pos (2 ^ 8)) ≡ pos (of_z w64 z % 2 ^ 8)
rest_8 (pos a) h = refl
rest_8 (negsuc a) h = ap pos (omega (arith, h.sfits))

rest_16 : (z : ℤ) → SFits w64 z → int_rem_euclid z (pos (2 ^ 16)) ≡ pos (of_z w64 z % 2 ^ 16)
rest_16 (pos a) h = refl
rest_16 (negsuc a) h = ap pos (omega (arith, h.sfits))

rest_32 : (z : ℤ) → SFits w64 z → int_rem_euclid z (pos (2 ^ 32)) ≡ pos (of_z w64 z % 2 ^ 32)
rest_32 (pos a) h = refl
rest_32 (negsuc a) h = ap pos (omega (arith, h.sfits))

-- b is what the code reads the number's bits as
pub residue_8 : (z : ℤ) → SFits w64 z → (b : ℕ) → b ≡ of_z w64 (to_z w64 (of_z w64 z)) → to_z w64 (bit_and b 255) ≡ int_rem_euclid z (pos (2 ^ 8))
residue_8 z h b e =
    to_z_pos w64 (bit_and b 255) (omega (arith, and_le_r b 255))
    ∙ ap (λ x. pos (bit_and x 255)) (e ∙ ap (of_z w64) (to_z-of_z w64 z h)) ∙ ap pos (and_mask (of_z w64 z) 8) ∙ sym (rest_8 z h)

pub residue_16 : (z : ℤ) → SFits w64 z → (b : ℕ) → b ≡ of_z w64 (to_z w64 (of_z w64 z)) → to_z w64 (bit_and b 65535) ≡ int_rem_euclid z (pos (2 ^ 16))
residue_16 z h b e =
    to_z_pos w64 (bit_and b 65535) (omega (arith, and_le_r b 65535))
    ∙ ap (λ x. pos (bit_and x 65535)) (e ∙ ap (of_z w64) (to_z-of_z w64 z h)) ∙ ap pos (and_mask (of_z w64 z) 16) ∙ sym (rest_16 z h)

pub residue_32 : (z : ℤ) → SFits w64 z → (b : ℕ) → b ≡ of_z w64 (to_z w64 (of_z w64 z)) → to_z w64 (bit_and b 4294967295) ≡ int_rem_euclid z (pos (2 ^ 32))
residue_32 z h b e =
    to_z_pos w64 (bit_and b 4294967295) (omega (arith, and_le_r b 4294967295))
    ∙ ap (λ x. pos (bit_and x 4294967295)) (e ∙ ap (of_z w64) (to_z-of_z w64 z h)) ∙ ap pos (and_mask (of_z w64 z) 32) ∙ sym (rest_32 z h)
