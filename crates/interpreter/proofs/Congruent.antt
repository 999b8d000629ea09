-- Numbers that wrap to the same: their sums, differences and products do so too.
use Rattle.std.proofs.Common.{◌≡◌, ◌^◌, ◌*◌, refl, sym, ap, ◌∙◌, arith, ℤ}
use Rattle.std.specs.Prelude.{◌+ℤ◌, ◌-ℤ◌, ◌*ℤ◌}
use Rattle.std.proofs.Math.IntN.{*ℤ_comm}
use Rattle.std.proofs.lemmas.Int.{ints}
use lib.Pow.{pow_pos}
use Rattle.numeric.specs.declared.ty.Ty.{Ty}
use Rattle.numeric.specs.Wrap.{wrap, lowered, bits, modulus}
use Rattle.numeric.proofs.Ints.{distribute_right, multiple_assoc}
use Rattle.numeric.proofs.Wraps.{wraps_to}
use Rattle.interpreter.proofs.Recasts.{rest_through}

difference_right : (a b c : ℤ) → a *ℤ c ≡ (a -ℤ b) *ℤ c +ℤ b *ℤ c
difference_right a b c =
    let whole : a ≡ (a -ℤ b) +ℤ b = omega (arith, ints) in
    ap (λ (x : ℤ). x *ℤ c) whole ∙ distribute_right (a -ℤ b) b c

-- they differ by turns of the modulus
turns_between : (t : Ty) (x y : ℤ) → wrap t x ≡ wrap t y → (q : ℤ) × (x ≡ y +ℤ q *ℤ modulus t)
turns_between t x y e =
    let a = wraps_to t x in
    let b = wraps_to t y in
    let p = a.congruent in
    let q = b.congruent in
    (a.turns -ℤ b.turns, omega (arith, ints, p, q, e, difference_right a.turns b.turns (modulus t)))

wrap_turned : (t : Ty) (y q : ℤ) → wrap t (y +ℤ q *ℤ modulus t) ≡ wrap t y
wrap_turned t y q =
    let once : 1 * 2 ^ bits t ≡ 2 ^ bits t = omega arith in
    ap (lowered t) (rest_through (y +ℤ q *ℤ modulus t) y q (2 ^ bits t) (2 ^ bits t) 1 (pow_pos (bits t)) once refl)

pub sum_alike : (t : Ty) (x y u v : ℤ) → wrap t x ≡ wrap t u → wrap t y ≡ wrap t v → wrap t (x +ℤ y) ≡ wrap t (u +ℤ v)
sum_alike t x y u v e f =
    let a = turns_between t x u e in
    let b = turns_between t y v f in
    let p = a.1 in
    let q = b.1 in
    let same : x +ℤ y ≡ (u +ℤ v) +ℤ (a.0 +ℤ b.0) *ℤ modulus t = omega (arith, ints, p, q, distribute_right a.0 b.0 (modulus t)) in
    ap (wrap t) same ∙ wrap_turned t (u +ℤ v) (a.0 +ℤ b.0)

pub difference_alike : (t : Ty) (x y u v : ℤ) → wrap t x ≡ wrap t u → wrap t y ≡ wrap t v → wrap t (x -ℤ y) ≡ wrap t (u -ℤ v)
difference_alike t x y u v e f =
    let a = turns_between t x u e in
    let b = turns_between t y v f in
    let p = a.1 in
    let q = b.1 in
    let same : x -ℤ y ≡ (u -ℤ v) +ℤ (a.0 -ℤ b.0) *ℤ modulus t = omega (arith, ints, p, q, difference_right a.0 b.0 (modulus t)) in
    ap (wrap t) same ∙ wrap_turned t (u -ℤ v) (a.0 -ℤ b.0)

product_alike_left : (t : Ty) (x y u : ℤ) → wrap t x ≡ wrap t u → wrap t (x *ℤ y) ≡ wrap t (u *ℤ y)
product_alike_left t x y u e =
    let a = turns_between t x u e in
    let m = modulus t in
    let turned : (a.0 *ℤ m) *ℤ y ≡ (a.0 *ℤ y) *ℤ m = sym (multiple_assoc a.0 m y) ∙ ap (λ (z : ℤ). a.0 *ℤ z) (*ℤ_comm m y) ∙ multiple_assoc a.0 y m in
    let same : x *ℤ y ≡ u *ℤ y +ℤ (a.0 *ℤ y) *ℤ m = ap (λ (z : ℤ). z *ℤ y) a.1 ∙ distribute_right u (a.0 *ℤ m) y ∙ ap (λ (z : ℤ). u *ℤ y +ℤ z) turned in
    ap (wrap t) same ∙ wrap_turned t (u *ℤ y) (a.0 *ℤ y)

pub product_alike : (t : Ty) (x y u v : ℤ) → wrap t x ≡ wrap t u → wrap t y ≡ wrap t v → wrap t (x *ℤ y) ≡ wrap t (u *ℤ v)
product_alike t x y u v e f =
    product_alike_left t x y u e ∙ ap (wrap t) (*ℤ_comm u y) ∙ product_alike_left t y u v f ∙ ap (wrap t) (*ℤ_comm v u)
