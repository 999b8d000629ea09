-- What a number wraps to of a type of no more bits.
use Rattle.std.proofs.Common.{◌≡◌, ℕ, ◌+◌, ◌-◌, ◌*◌, ◌^◌, ◌<◌, ◌≤◌, sym, ap, ◌∙◌, arith, ℤ, pos, ◌+ℤ◌, ◌*ℤ◌}
use Rattle.std.specs.Int.{int_rem_euclid}
use Rattle.std.proofs.lemmas.Nat.{pow-add}
use lib.Pow.{pow_pos}
use borrow.Author.Differences.{up, down, sum_is_lem, product_is, same_in, same_out}
use Rattle.numeric.specs.declared.ty.Ty.{Ty}
use Rattle.numeric.specs.Wrap.{wrap, lowered, bits}
use Rattle.numeric.proofs.Numbers.{same_rest}
use Rattle.numeric.proofs.Wraps.{wraps_to}

-- numbers that differ by turns of m have one remainder by each divisor of m
pub rest_through : (z w turns : ℤ) (m n q : ℕ) → 0 < n → q * n ≡ m → z ≡ w +ℤ turns *ℤ pos m → int_rem_euclid z (pos n) ≡ int_rem_euclid w (pos n)
rest_through z w turns m n q some e c =
    let p = product_is turns (pos m) in
    let by = ap (λ (x : ℕ). down turns * x) e in
    let to = ap (λ (x : ℕ). up turns * x) e in
    same_rest z w n (down turns * q) (up turns * q) some (omega (arith, same_out, same_in, sum_is_lem, by, to, c, p))

-- the modulus of a type of no more bits is a divisor
divides : (t s : Ty) → bits t ≤ bits s → 2 ^ (bits s - bits t) * 2 ^ bits t ≡ 2 ^ bits s
divides t s le =
    let whole : bits s - bits t + bits t ≡ bits s = omega (arith, le) in
    sym (pow-add 2 (bits s - bits t) (bits t)) ∙ ap (λ (n : ℕ). 2 ^ n) whole

-- a number and what it wraps to of a type wrap to the same of a type of no more bits
pub wrap_of_wrapped : (s t : Ty) (z : ℤ) → bits t ≤ bits s → wrap t z ≡ wrap t (wrap s z)
wrap_of_wrapped s t z le =
    let w = wraps_to s z in
    ap (lowered t) (rest_through z (wrap s z) w.turns (2 ^ bits s) (2 ^ bits t) (2 ^ (bits s - bits t)) (pow_pos (bits t)) (divides t s le) w.congruent)
