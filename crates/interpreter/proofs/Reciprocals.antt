-- Quotients by a product with a reciprocal.
use Rattle.std.proofs.Common.{◌≡◌, ℕ, ◌+◌, ◌-◌, ◌*◌, ◌/◌, ◌^◌, ◌<◌, ◌≤◌, refl, sym, ap, ◌∙◌, arith, ℤ, pos}
use Rattle.std.proofs.lemmas.Nat.{mul-lt}
use Rattle.std.proofs.Math.Nat.{add-mul, mul-add, mul_assoc, mul_right_comm, mul-le-mul_left, mul-le-mul_right, le_of_mul-le-mul_right, lt_of_mul-lt-mul_right, div-mul-le_self, lt-div-mul-add}
use Rattle.numeric.specs.declared.ty.Ty.{Ty}
use Rattle.numeric.specs.declared.op.Op.TheVariants.{Div}
use Rattle.numeric.specs.Apply.{apply, quotient}
use Rattle.numeric.specs.Wrap.{wrap}
use Rattle.interpreter.specs.Evaluation.Quotients.{IsReciprocal, IsShortReciprocal}
use Rattle.interpreter.proofs.Divisions.{quotient_above, quotient_is}

-- a quotient, where the product lies between it and the next one
between : (x q p : ℕ) → q * p ≤ x → x < (q + 1) * p → x / p ≡ q
between x q p low high =
    let next : (q + 1) * p ≡ q * p + 1 * p = add-mul q 1 p in
    let whole : q * p + (x - q * p) ≡ x = omega (arith, low) in
    let rest : x - q * p < p = omega (arith, low, high, next) in
    sym (quotient_is x q p (x - q * p) whole rest)

product_from : (p n m d q : ℕ) → 0 < d → p ≤ m * d → q * d ≤ n → q * p ≤ n * m
product_from p n m d q some low below =
    let swap : q * p * d ≡ q * d * p = mul_right_comm q p d in
    let whole : n * m * d ≡ n * (m * d) = mul_assoc n m d in
    let first : q * d * p ≤ n * p = mul-le-mul_right p below in
    let second : n * p ≤ n * (m * d) = mul-le-mul_left n low in
    le_of_mul-le-mul_right (omega (arith, swap, whole, first, second)) some

product_below : (p n m d q : ℕ) → n * (m * d) < (n + 1) * p → n < q * d + d → n * m < (q + 1) * p
product_below p n m d q high above =
    let swap : (q + 1) * p * d ≡ (q + 1) * d * p = mul_right_comm (q + 1) p d in
    let more : (q + 1) * d ≡ q * d + 1 * d = add-mul q 1 d in
    let whole : n * m * d ≡ n * (m * d) = mul_assoc n m d in
    let next : n + 1 ≤ (q + 1) * d = omega (arith, more, above) in
    let last : (n + 1) * p ≤ (q + 1) * d * p = mul-le-mul_right p next in
    lt_of_mul-lt-mul_right d (omega (arith, swap, whole, high, last))

-- the upper part of a product with a reciprocal is the quotient
pub by_reciprocal : (p n m d : ℕ) → 0 < d → p ≤ m * d → n * (m * d) < (n + 1) * p → (n * m) / p ≡ n / d
by_reciprocal p n m d some low high =
    between (n * m) (n / d) p (product_from p n m d (n / d) some low (div-mul-le_self n d)) (product_below p n m d (n / d) high (lt-div-mul-add some))

-- what is lost stays below one
little : (a b p n m d : ℕ) → p ≡ a * b → n < a → d ≤ b → p ≤ m * d → m * d < p + d → n * (m * d) < (n + 1) * p
little a b p n m d is small few low high =
    let e = m * d - p in
    let more : m * d ≡ p + e = omega (arith, low) in
    let split : n * (m * d) ≡ n * p + n * e = ap (λ (x : ℕ). n * x) more ∙ mul-add n p e in
    let lost : n * e < a * b = mul-lt n e a b small (omega (arith, low, high, few)) in
    let next : (n + 1) * p ≡ n * p + 1 * p = add-mul n 1 p in
    omega (arith, split, lost, next, is)

pub small_division : (n m d : ℕ) → n < 2 ^ 16 → IsReciprocal m d → (n * m) / (2 ^ 32) ≡ n / d
small_division n m d small h = by_reciprocal (2 ^ 32) n m d h.some h.low (little (2 ^ 16) (2 ^ 16) (2 ^ 32) n m d refl small h.few h.low h.high)

pub reciprocal_is : (d m : ℕ) → 2 ≤ d → d ≤ 2 ^ 16 → m ≡ (2 ^ 32 - 1) / d + 1 → IsReciprocal m d
reciprocal_is d m some few is =
    let k : ℕ = (2 ^ 32 - 1) / d in
    let positive : 0 < d = omega (arith, some) in
    let below : k * d ≤ 2 ^ 32 - 1 = div-mul-le_self (2 ^ 32 - 1) d in
    let above : 2 ^ 32 - 1 < k * d + d = lt-div-mul-add positive in
    let more : m * d ≡ k * d + 1 * d = ap (λ (x : ℕ). x * d) is ∙ add-mul k 1 d in
    record { some = positive; few = few; low = omega (arith, more, above); high = omega (arith, more, below) }

-- and wrapped to a type, it is what the operator gives
pub divided_small : (t : Ty) (z y : ℤ) (n m d : ℕ) → z ≡ pos n → n < 2 ^ 16 → IsReciprocal m d → y ≡ pos ((n * m) / (2 ^ 32)) → wrap t y ≡ apply Div t z (pos d)
divided_small t z y n m d is small h e =
    ap (wrap t) (e ∙ ap (λ (x : ℕ). pos x) (small_division n m d small h) ∙ sym (quotient_above n d h.some))
    ∙ ap (λ (x : ℤ). wrap t (quotient x (pos d))) (sym is)

-- the same with a factor of 16 bits
short_division : (n m s d : ℕ) → n < 2 ^ 16 → IsShortReciprocal m s d → (n * m) / (2 ^ s) ≡ n / d
short_division n m s d small h =
    let p : ℕ = 2 ^ s in
    let e : ℕ = m * d - p in
    let low : p ≤ m * d = h.low in
    let high : m * d * 2 ^ 16 < p * 2 ^ 16 + p = h.high in
    let more : m * d ≡ p + e = omega (arith, low) in
    let most : n ≤ 2 ^ 16 - 1 = omega (arith, small) in
    let lost : n * e ≤ (2 ^ 16 - 1) * e = mul-le-mul_right e most in
    let split : n * (m * d) ≡ n * p + n * e = ap (λ (x : ℕ). n * x) more ∙ mul-add n p e in
    let next : (n + 1) * p ≡ n * p + 1 * p = add-mul n 1 p in
    by_reciprocal p n m d h.some low (omega (arith, split, lost, next, more, high))

pub divided_short : (t : Ty) (z : ℤ) (n m s d w : ℕ) → z ≡ pos n → n < 2 ^ 16 → IsShortReciprocal m s d → w ≡ (n * m) / (2 ^ s) → wrap t (pos w) ≡ apply Div t z (pos d)
divided_short t z n m s d w is small h e =
    ap (wrap t) (ap (λ (x : ℕ). pos x) (e ∙ short_division n m s d small h) ∙ sym (quotient_above n d h.some))
    ∙ ap (λ (x : ℤ). wrap t (quotient x (pos d))) (sym is)
