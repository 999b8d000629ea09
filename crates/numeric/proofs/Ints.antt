-- Laws of whole numbers that other crates use too.
use Rattle.std.proofs.Common.{◌≡◌, ℕ, zero, suc, ◌*◌, arith, ap}
use Rattle.std.specs.Prelude.{ℤ, pos, negsuc, ◌+ℤ◌, ◌*ℤ◌, ◌≤ℤ◌}
use Rattle.std.proofs.lemmas.Int.{ints}
use Rattle.std.proofs.Math.IntN.{*ℤ_comm}
use Rattle.std.proofs.Math.Nat.{mul-le-mul_left}
use borrow.Author.Differences.{up, down, sum_is_lem, product_is, le_out}

pub distribute : (a b c : ℤ) → a *ℤ (b +ℤ c) ≡ a *ℤ b +ℤ a *ℤ c
distribute a b c =
    let first = ap (λ (x : ℕ). up a * x) (sum_is_lem b c) in
    let second = ap (λ (x : ℕ). down a * x) (sum_is_lem b c) in
    omega (arith, ints, first, second, product_is a (b +ℤ c), product_is a b, product_is a c)

pub multiple_assoc : (a b c : ℤ) → a *ℤ (b *ℤ c) ≡ (a *ℤ b) *ℤ c
multiple_assoc a b c =
    let bc = product_is b c in
    let ab = product_is a b in
    let f1 = ap (λ (x : ℕ). up a * x) bc.0 in
    let f2 = ap (λ (x : ℕ). up a * x) bc.1 in
    let f3 = ap (λ (x : ℕ). down a * x) bc.0 in
    let f4 = ap (λ (x : ℕ). down a * x) bc.1 in
    let g1 = ap (λ (x : ℕ). x * up c) ab.0 in
    let g2 = ap (λ (x : ℕ). x * up c) ab.1 in
    let g3 = ap (λ (x : ℕ). x * down c) ab.0 in
    let g4 = ap (λ (x : ℕ). x * down c) ab.1 in
    omega (arith, ints, f1, f2, f3, f4, g1, g2, g3, g4, product_is a (b *ℤ c), product_is (a *ℤ b) c)

multiply_order_pos : (n : ℕ) (a b : ℤ) → a ≤ℤ b → (pos n *ℤ a) ≤ℤ (pos n *ℤ b)
multiply_order_pos n a b h =
    let scaled = mul-le-mul_left n (le_out a b h) in
    omega (arith, ints, scaled, product_is (pos n) a, product_is (pos n) b)

pub multiply_order : (c a b : ℤ) → pos 0 ≤ℤ c → a ≤ℤ b → (c *ℤ a) ≤ℤ (c *ℤ b)
multiply_order (pos n) a b hc h = multiply_order_pos n a b h
multiply_order (negsuc n) a b hc h = omega (arith, ints)

pub multiply_order_negative : (c a b : ℤ) → c ≤ℤ pos 0 → a ≤ℤ b → (c *ℤ b) ≤ℤ (c *ℤ a)
multiply_order_negative (pos zero) a b hc h = omega (arith, ints, product_is (pos 0) a, product_is (pos 0) b)
multiply_order_negative (pos (suc n)) a b hc h = omega (arith, ints)
multiply_order_negative (negsuc n) a b hc h =
    let scaled = mul-le-mul_left (suc n) (le_out a b h) in
    omega (arith, ints, scaled, product_is (negsuc n) a, product_is (negsuc n) b)

pub distribute_right : (a b c : ℤ) → (a +ℤ b) *ℤ c ≡ a *ℤ c +ℤ b *ℤ c
distribute_right a b c = rw (*ℤ_comm (a +ℤ b) c, *ℤ_comm a c, *ℤ_comm b c) (distribute c a b)
