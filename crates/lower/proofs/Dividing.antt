-- Numbers in blocks of so many, and the nearest numbers of 64 bits.
use Rattle.std.proofs.Common.{◌≡◌, ℕ, ◌<◌, Bool, true, false, refl, ap, ◌∙◌, arith, ℤ, pos, negsuc, ◌≤ℤ◌, w64}
use Rattle.std.specs.Prelude.{◌+ℤ◌, ◌-ℤ◌, ◌*ℤ◌, ◌<ℤ◌, int_lt, unsigned_abs}
use Rattle.std.specs.Int.{saturate_signed}
use Rattle.std.proofs.lemmas.Int.{ints}
use Rattle.numeric.specs.Apply.{quotient, remainder}
use Rattle.numeric.proofs.Quotients.{divides, divides_only}
use Rattle.numeric.proofs.Ints.{distribute, multiply_order}

-- the number d falls in the block t of n numbers each, at the place m of it
pub record Falls (n : ℕ) (d t m : ℤ) : Type 0 where
  pub whole : d ≡ pos n *ℤ t +ℤ m
  pub from : pos 0 ≤ℤ m
  pub below : m <ℤ pos n

not_zero : (n : ℕ) → 0 < n → pos n ≡ pos 0 → ⊥
not_zero n some e = omega (arith, ints, some, e)

abs_below : (r : ℤ) (n : ℕ) → pos 0 ≤ℤ r → unsigned_abs r < n → r <ℤ pos n
abs_below (pos a) n h l = omega (arith, ints, l)
abs_below (negsuc a) n h l = absurd (omega (arith, ints, h))

below_abs : (r : ℤ) (n : ℕ) → pos 0 ≤ℤ r → r <ℤ pos n → unsigned_abs r < n
below_abs (pos a) n h l = omega (arith, ints, l)
below_abs (negsuc a) n h l = absurd (omega (arith, ints, h))

pub falls : (n : ℕ) (d : ℤ) → 0 < n → Falls n d (quotient d (pos n)) (remainder d (pos n))
falls n d some =
    let k = divides d (pos n) (not_zero n some) in
    record { whole = k.whole; from = k.from; below = abs_below (remainder d (pos n)) n k.from k.below }

pub falls_only : (n : ℕ) (d t m : ℤ) → 0 < n → Falls n d t m → (t ≡ quotient d (pos n)) × (m ≡ remainder d (pos n))
falls_only n d t m some f =
    divides_only d (pos n) t m (not_zero n some) (record { whole = f.whole; from = f.from; below = below_abs m n f.from f.below })

-- ---- the order of blocks is that of their numbers

pub next_times : (n : ℕ) (a : ℤ) → pos n *ℤ (a +ℤ pos 1) ≡ pos n *ℤ a +ℤ pos n
next_times n a = let k = distribute (pos n) a (pos 1) in let o : pos n *ℤ pos 1 ≡ pos n = omega (arith, ints) in k ∙ ap (λ z. pos n *ℤ a +ℤ z) o

module _ (n : ℕ) (d t m : ℤ) (f : Falls n d t m) where
  -- the first number of an earlier block, or of this one, is not above
  pub first_below : (a : ℤ) → a ≤ℤ t → (pos n *ℤ a) ≤ℤ d
  first_below a h =
      let k = multiply_order (pos n) a t (omega (arith, ints)) h in
      let whole = f.whole in
      let from = f.from in
      omega (arith, ints, k, whole, from)

  pub below_first : (a : ℤ) → (pos n *ℤ a) ≤ℤ d → a ≤ℤ t
  below_first a h = of (int_lt t a) refl
    where
      of : (v : Bool) → int_lt t a ≡ v → a ≤ℤ t
      of false e = omega (arith, ints, e)
      of true e =
          let next : (t +ℤ pos 1) ≤ℤ a = omega (arith, ints, e) in
          let k = multiply_order (pos n) (t +ℤ pos 1) a (omega (arith, ints)) next in
          let whole = f.whole in
          let below = f.below in
          let s = next_times n t in
          absurd (omega (arith, ints, k, s, h, whole, below))

  -- the last number of a later block, or of this one, is not below
  pub last_above : (a : ℤ) → t ≤ℤ a → d ≤ℤ (pos n *ℤ a +ℤ pos n -ℤ pos 1)
  last_above a h =
      let k = multiply_order (pos n) t a (omega (arith, ints)) h in
      let whole = f.whole in
      let below = f.below in
      omega (arith, ints, k, whole, below)

  pub above_last : (a : ℤ) → d ≤ℤ (pos n *ℤ a +ℤ pos n -ℤ pos 1) → t ≤ℤ a
  above_last a h = of (int_lt a t) refl
    where
      of : (v : Bool) → int_lt a t ≡ v → t ≤ℤ a
      of false e = omega (arith, ints, e)
      of true e =
          let next : (a +ℤ pos 1) ≤ℤ t = omega (arith, ints, e) in
          let k = multiply_order (pos n) (a +ℤ pos 1) t (omega (arith, ints)) next in
          let whole = f.whole in
          let from = f.from in
          let s = next_times n a in
          absurd (omega (arith, ints, k, s, h, whole, from))

-- ---- numbers of 64 bits

abbrev pub nearest : ℤ → ℤ
nearest z = saturate_signed w64 z

pub nearest_of_small : (z : ℤ) → negsuc 4398046511104 ≤ℤ z → z ≤ℤ pos 4398046511104 → nearest z ≡ z
nearest_of_small (pos n) a b = ap pos (omega (arith, ints, a, b))
nearest_of_small (negsuc n) a b = ap negsuc (omega (arith, ints, a, b))

pub nearest_order : (p q : ℤ) → p ≤ℤ q → nearest p ≤ℤ nearest q
nearest_order (pos m) (pos n) h = omega (arith, ints, h)
nearest_order (pos m) (negsuc n) h = omega (arith, ints, h)
nearest_order (negsuc m) (pos n) h = omega (arith, ints, h)
nearest_order (negsuc m) (negsuc n) h = omega (arith, ints, h)

pub nearest_below : (z : ℤ) → pos 0 ≤ℤ z → nearest z ≤ℤ z
nearest_below (pos n) h = omega (arith, ints)
nearest_below (negsuc n) h = absurd (omega (arith, ints, h))
