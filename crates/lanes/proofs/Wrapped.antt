-- To wrap at a width is to wrap to the type with a sign of that width.
use Rattle.std.proofs.Common.{◌≡◌, ◌*◌, ◌%◌, ◌^◌, refl, sym, ap, ◌∙◌, arith, ℤ, ◌*ℤ◌, w8, w16, w32, to_z, of_z, SFits}
use Rattle.std.specs.Int.{int_wrap}
use Rattle.std.proofs.lemmas.Int.{ints, SFits-int_wrap, wrapping_mul_is}
use Rattle.numeric.specs.declared.ty.Ty.TheVariants.{I8, I16, I32}
use Rattle.numeric.specs.declared.op.Op.TheVariants.{Mul}
use Rattle.numeric.specs.Wrap.{IsOf, wrap, lowered}
use Rattle.numeric.specs.Apply.{apply}
use Rattle.numeric.proofs.Numbers.{rest_of_wrapped}
use Rattle.numeric.proofs.Wraps.{wrap_of_value}

within_i8 : (z : ℤ) → SFits w8 z → IsOf I8 z
within_i8 z h = record { from = omega (arith, ints); to = omega (arith, ints) }

within_i16 : (z : ℤ) → SFits w16 z → IsOf I16 z
within_i16 z h = record { from = omega (arith, ints); to = omega (arith, ints) }

within_i32 : (z : ℤ) → SFits w32 z → IsOf I32 z
within_i32 z h = record { from = omega (arith, ints); to = omega (arith, ints) }

pub wrapped_i8 : (z : ℤ) → int_wrap w8 z ≡ wrap I8 z
wrapped_i8 z =
    sym (wrap_of_value I8 (int_wrap w8 z) (within_i8 (int_wrap w8 z) (SFits-int_wrap w8 z)))
    ∙ ap (lowered I8) (rest_of_wrapped w8 z (2 ^ 8) 1 (omega arith) refl)

pub wrapped_i16 : (z : ℤ) → int_wrap w16 z ≡ wrap I16 z
wrapped_i16 z =
    sym (wrap_of_value I16 (int_wrap w16 z) (within_i16 (int_wrap w16 z) (SFits-int_wrap w16 z)))
    ∙ ap (lowered I16) (rest_of_wrapped w16 z (2 ^ 16) 1 (omega arith) refl)

pub wrapped_i32 : (z : ℤ) → int_wrap w32 z ≡ wrap I32 z
wrapped_i32 z =
    sym (wrap_of_value I32 (int_wrap w32 z) (within_i32 (int_wrap w32 z) (SFits-int_wrap w32 z)))
    ∙ ap (lowered I32) (rest_of_wrapped w32 z (2 ^ 32) 1 (omega arith) refl)

-- the product that the code makes of two values with a sign
pub product_i8 : (a b : ℤ) → SFits w8 a → SFits w8 b → to_z w8 (of_z w8 a * of_z w8 b % 2 ^ 8) ≡ apply Mul I8 a b
product_i8 a b f g = wrapping_mul_is w8 a b f g ∙ wrapped_i8 (a *ℤ b)

pub product_i16 : (a b : ℤ) → SFits w16 a → SFits w16 b → to_z w16 (of_z w16 a * of_z w16 b % 2 ^ 16) ≡ apply Mul I16 a b
product_i16 a b f g = wrapping_mul_is w16 a b f g ∙ wrapped_i16 (a *ℤ b)

pub product_i32 : (a b : ℤ) → SFits w32 a → SFits w32 b → to_z w32 (of_z w32 a * of_z w32 b % 2 ^ 32) ≡ apply Mul I32 a b
product_i32 a b f g = wrapping_mul_is w32 a b f g ∙ wrapped_i32 (a *ℤ b)
