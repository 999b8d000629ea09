-- Sums, differences and products modulo 2 ^ 32.
use Rattle.std.proofs.Common.{◌≡◌, ℤ, pos, neg_ℤ, ◌+ℤ◌, ◌-ℤ◌, ◌*ℤ◌, refl, sym, ap, ◌∙◌, arith}
use Rattle.std.proofs.lemmas.Int.{ints}
use Rattle.std.proofs.Math.IntN.{*ℤ_comm}
use Rattle.numeric.specs.declared.ty.Ty.TheVariants.{I32}
use Rattle.numeric.specs.Wrap.{wrap, modulus}
use Rattle.numeric.proofs.Wraps.{wraps_to, wraps_only}
use Rattle.numeric.proofs.Ints.{distribute_right, multiple_assoc}

-- a and b differ by a multiple of the modulus
pub record Same (a b : ℤ) : Type 0 where
  pub turns : ℤ
  pub is : a ≡ b +ℤ turns *ℤ modulus I32

zero_turns : (m : ℤ) → pos 0 *ℤ m ≡ pos 0
zero_turns m = *ℤ_comm (pos 0) m ∙ omega (arith, ints)

pub equal : (a b : ℤ) → a ≡ b → Same a b
equal a b e = record { turns = pos 0; is = let z = zero_turns (modulus I32) in omega (arith, ints, e, z) }

pub unwrapped : (a : ℤ) → Same a (wrap I32 a)
unwrapped a = let h = wraps_to I32 a in record { turns = h.turns; is = h.congruent }

negated_turns : (k m : ℤ) → neg_ℤ k *ℤ m +ℤ k *ℤ m ≡ pos 0
negated_turns k m =
    let none : neg_ℤ k +ℤ k ≡ pos 0 = omega (arith, ints) in
    sym (distribute_right (neg_ℤ k) k m) ∙ ap (λ x. x *ℤ m) none ∙ zero_turns m

pub back : (a b : ℤ) → Same a b → Same b a
back a b h = record { turns = neg_ℤ h.turns; is = let n = negated_turns h.turns (modulus I32) in let e = h.is in omega (arith, ints, n, e) }

pub through : (a b c : ℤ) → Same a b → Same b c → Same a c
through a b c h k = record { turns = h.turns +ℤ k.turns; is = let d = distribute_right h.turns k.turns (modulus I32) in let e = h.is in let f = k.is in omega (arith, ints, d, e, f) }

pub sum : (a b c d : ℤ) → Same a b → Same c d → Same (a +ℤ c) (b +ℤ d)
sum a b c d h k = record { turns = h.turns +ℤ k.turns; is = let t = distribute_right h.turns k.turns (modulus I32) in let e = h.is in let f = k.is in omega (arith, ints, t, e, f) }

pub opposite : (a b : ℤ) → Same a b → Same (neg_ℤ a) (neg_ℤ b)
opposite a b h = record { turns = neg_ℤ h.turns; is = let n = negated_turns h.turns (modulus I32) in let e = h.is in omega (arith, ints, n, e) }

pub difference : (a b c d : ℤ) → Same a b → Same c d → Same (a -ℤ c) (b -ℤ d)
difference a b c d h k =
    let s = sum a b (neg_ℤ c) (neg_ℤ d) h (opposite c d k) in
    record { turns = s.turns; is = let e = s.is in omega (arith, ints, e) }

pub product : (a b n : ℤ) → Same a b → Same (a *ℤ n) (b *ℤ n)
product a b n h = record {
  turns = h.turns *ℤ n;
  is =
      let m = modulus I32 in
      ap (λ x. x *ℤ n) h.is ∙ distribute_right b (h.turns *ℤ m) n
      ∙ ap (λ x. b *ℤ n +ℤ x) (sym (multiple_assoc h.turns m n) ∙ ap (λ x. h.turns *ℤ x) (*ℤ_comm m n) ∙ multiple_assoc h.turns n m);
}

-- numbers that differ by a multiple of the modulus wrap to one value
pub wraps_same : (a b : ℤ) → Same a b → wrap I32 a ≡ wrap I32 b
wraps_same a b h =
    let t = through a b (wrap I32 b) h (unwrapped b) in
    sym (wraps_only I32 a (wrap I32 b) (record { within = (wraps_to I32 b).within; turns = t.turns; congruent = t.is }))

-- and so do numbers that come to one without wraps
pub wraps_alike : (a b c d : ℤ) → Same a c → Same b d → c ≡ d → wrap I32 a ≡ wrap I32 b
wraps_alike a b c d h k e = wraps_same a b (through a c b h (through c d b (equal c d e) (back b d k)))

pub same : (a : ℤ) → Same a a
same a = equal a a refl

pub wrapped : (a : ℤ) → Same (wrap I32 a) a
wrapped a = back a (wrap I32 a) (unwrapped a)

-- a sum one side of which was wrapped
pub add_left : (a b : ℤ) → wrap I32 (wrap I32 a +ℤ b) ≡ wrap I32 (a +ℤ b)
add_left a b = wraps_same (wrap I32 a +ℤ b) (a +ℤ b) (sum (wrap I32 a) a b b (back a (wrap I32 a) (unwrapped a)) (equal b b refl))
