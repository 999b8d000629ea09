-- The numbers of a loop, one after another.
use Rattle.std.proofs.Common.{◌≡◌, ℕ, zero, suc, ◌<◌, [], ◌∷◌, length, get_or, refl, sym, ap, ◌∙◌, subst, arith, ℤ, pos, negsuc, ◌+ℤ◌, ◌-ℤ◌, ◌≤ℤ◌, ◌<ℤ◌}
use Rattle.std.specs.Prelude.{Contains}
use Rattle.std.proofs.lemmas.Int.{ints}
use Rattle.plan.specs.Symbols.{rising, clipped}
use Rattle.interpreter.specs.Visits.{between}
use lib.IntN.{nat_abs}

clipped_none : (d : ℤ) → d ≤ℤ pos 0 → clipped d ≡ 0
clipped_none (pos n) h = omega (arith, ints)
clipped_none (negsuc n) h = refl

pub between_more : (z high : ℤ) → z ≤ℤ high → between z high ≡ z ∷ between (z +ℤ pos 1) high
between_more z high h =
    let k : ℕ = nat_abs (high -ℤ z) in
    let e : (high +ℤ pos 1) -ℤ z ≡ pos (suc k) = omega (arith, ints) in
    let f : (high +ℤ pos 1) -ℤ (z +ℤ pos 1) ≡ pos k = omega (arith, ints) in
    ap (λ (d : ℤ). rising z (clipped d)) e ∙ ap (λ (d : ℤ). z ∷ rising (z +ℤ pos 1) (clipped d)) (sym f)

pub between_none : (z high : ℤ) → high <ℤ z → between z high ≡ []
between_none z high h = ap (rising z) (clipped_none ((high +ℤ pos 1) -ℤ z) (omega (arith, ints)))

length-rising : (n : ℕ) (low : ℤ) → length (rising low n) ≡ n
length-rising zero low = refl
length-rising (suc n) low = ap suc (length-rising n (low +ℤ pos 1))

at_rising : (n k : ℕ) (low d : ℤ) → k < n → get_or (rising low n) k d ≡ low +ℤ pos k
at_rising zero k low d h = absurd (omega arith)
at_rising (suc n) zero low d h = omega (arith, ints)
at_rising (suc n) (suc k) low d h =
    at_rising n k (low +ℤ pos 1) d (omega arith) ∙ (let e : low +ℤ pos 1 +ℤ pos k ≡ low +ℤ pos (suc k) = omega (arith, ints) in e)

pub rising_has : (n k : ℕ) (low z : ℤ) → k < n → z ≡ low +ℤ pos k → Contains (rising low n) z
rising_has n k low z h e = (k, subst (λ (m : ℕ). k < m) (sym (length-rising n low)) h, at_rising n k low z h ∙ sym e)

-- each number of them is so many behind the first
pub in_rising : (n : ℕ) (low z : ℤ) (P : Type 0) → Contains (rising low n) z → ((k : ℕ) → k < n → z ≡ low +ℤ pos k → P) → P
in_rising n low z P (k, lt, at) f =
    let less : k < n = subst (λ (m : ℕ). k < m) (length-rising n low) lt in
    f k less (sym at ∙ at_rising n k low z less)

pub between_has : (low high z : ℤ) → low ≤ℤ z → z ≤ℤ high → Contains (between low high) z
between_has low high z from to =
    let m : ℕ = nat_abs (high -ℤ low) in
    let k : ℕ = nat_abs (z -ℤ low) in
    let e : (high +ℤ pos 1) -ℤ low ≡ pos (suc m) = omega (arith, ints) in
    let lt : k < suc m = omega (arith, ints) in
    let is : z ≡ low +ℤ pos k = omega (arith, ints) in
    subst (λ (d : ℤ). Contains (rising low (clipped d)) z) (sym e) (rising_has (suc m) k low z lt is)
