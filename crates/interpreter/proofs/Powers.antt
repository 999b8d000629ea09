-- Quotients and remainders by powers of two: what lies above the lowest bits, and these bits.
use Rattle.std.proofs.Common.{◌≡◌, ℕ, zero, suc, ◌+◌, ◌-◌, ◌*◌, ◌%◌, ◌/◌, ◌^◌, ◌<◌, ◌≤◌, refl, sym, ap, ◌∙◌, arith, ℤ, pos, negsuc}
use Rattle.std.specs.Int.{int_rem_euclid, int_shr}
use Rattle.std.proofs.lemmas.Nat.{pow-add}
use Rattle.std.proofs.lemmas.Int.{ints}
use lib.Pow.{pow_pos}
use Rattle.numeric.specs.declared.ty.Ty.{Ty}
use Rattle.numeric.specs.declared.ty.Ty.TheVariants.{U32}
use Rattle.numeric.specs.declared.op.Op.TheVariants.{Div, Rem}
use Rattle.numeric.specs.Apply.{apply, quotient, remainder}
use Rattle.numeric.specs.Wrap.{bits, wrap, IsOf}
use Rattle.numeric.proofs.Wraps.{wraps_to, wrap_of_value}
use Rattle.interpreter.proofs.Divisions.{quotient_above, quotient_below}
use Rattle.interpreter.proofs.Recasts.{rest_through}

-- the shift that copies the sign is the quotient that is rounded down
pub shifted : (z : ℤ) (e : ℕ) → int_shr z e ≡ quotient z (pos (2 ^ e))
shifted (pos n) e = sym (quotient_above n (2 ^ e) (pow_pos e))
shifted (negsuc n) e = sym (quotient_below n (2 ^ e) (pow_pos e))

-- a word is its own number of 32 bits without a sign
pub shifted_whole : (w e : ℕ) → w < 2 ^ 32 → wrap U32 (pos (w / 2 ^ e)) ≡ apply Div U32 (wrap U32 (pos w)) (pos (2 ^ e))
shifted_whole w e lt =
    let value : IsOf U32 (pos w) = record { from = omega (arith, ints); to = omega (arith, ints, lt) } in
    ap (wrap U32) (sym (quotient_above w (2 ^ e) (pow_pos e)))
    ∙ ap (λ (z : ℤ). wrap U32 (quotient z (pos (2 ^ e)))) (sym (wrap_of_value U32 (pos w) value))

rest_is : (z : ℤ) (d : ℕ) → 0 < d → remainder z (pos d) ≡ int_rem_euclid z (pos d)
rest_is z zero some = absurd (omega arith)
rest_is z (suc d) some = refl

-- the lowest bits of a word are the remainder of its number of each type of no fewer bits
pub rest_kept : (t : Ty) (w e : ℕ) → e ≤ bits t → wrap t (pos (w % 2 ^ e)) ≡ apply Rem t (wrap t (pos w)) (pos (2 ^ e))
rest_kept t w e le =
    let c = wraps_to t (pos w) in
    let whole : bits t - e + e ≡ bits t = omega (arith, le) in
    let part : 2 ^ (bits t - e) * 2 ^ e ≡ 2 ^ bits t = sym (pow-add 2 (bits t - e) e) ∙ ap (λ (n : ℕ). 2 ^ n) whole in
    let same = rest_through (pos w) (wrap t (pos w)) c.turns (2 ^ bits t) (2 ^ e) (2 ^ (bits t - e)) (pow_pos e) part c.congruent in
    ap (wrap t) (same ∙ sym (rest_is (wrap t (pos w)) (2 ^ e) (pow_pos e)))
