-- Folded buffers: points that lie within the fold of one another have places of their own.
use Rattle.std.proofs.Common.{◌≡◌, ℕ, suc, ◌+◌, ◌-◌, ◌*◌, ◌≤◌, ◌<◌, List, [], ◌∷◌, Option, Some, None, refl, sym, ◌∙◌, arith, mod-lt}
use Rattle.std.specs.Prelude.{ℤ, pos, negsuc, ◌+ℤ◌, ◌-ℤ◌, ◌<ℤ◌, IsSome, unsigned_abs, ◌%◌, ◌/◌}
use Rattle.std.specs.Int.{int_rem_euclid}
use Rattle.std.proofs.lemmas.Int.{ints, by_lt_z, int_rem_euclid_is}
use Rattle.std.proofs.lemmas.Nat.{div-add-mod'}
use Rattle.std.proofs.Math.Nat.{le-mul_of_pos_right, mul-le-mul_right}
use Rattle.plan.specs.Rooms.{Room, Straight, Wrapped, place, seat}
use Rattle.soundness.proofs.Turns.{below_some, joined_parts, joined_none, below_has}

-- numbers less than n apart with one remainder are one
mod_near : (a b n : ℕ) → 0 < n → a ≤ b → b < a + n → a % n ≡ b % n → a ≡ b
mod_near a b n h k l e =
    let p = div-add-mod' a n in
    let q = div-add-mod' b n in
    by_lt_z (pos (a / n)) (pos (b / n))
    (λ m. let up : suc (a / n) ≤ b / n = omega (arith, ints) in absurd (omega (arith, mul-le-mul_right n up)))
    (λ m. let down : b / n ≤ a / n = omega (arith, ints) in omega (arith, mul-le-mul_right n down))

raised : (z : ℤ) (k n : ℕ) → 0 < n → unsigned_abs z ≤ k → (m : ℕ) × (z +ℤ pos (k * n) ≡ pos m)
raised (pos a) k n h l = (a + k * n, omega (arith, ints))
raised (negsuc a) k n h l = let big = le-mul_of_pos_right k h in (k * n - suc a, omega (arith, ints))

pos_same : (a b : ℕ) → pos a ≡ pos b → a ≡ b
pos_same a b e = cc

pub rem_near : (n : ℕ) (y z : ℤ) → y <ℤ (z +ℤ pos n) → z <ℤ (y +ℤ pos n) → int_rem_euclid y (pos n) ≡ int_rem_euclid z (pos n) → y ≡ z
rem_near n y z h k e =
    let some : 0 < n = omega (arith, ints) in
    let t = unsigned_abs y + unsigned_abs z in
    let a = raised y t n some (omega arith) in
    let b = raised z t n some (omega arith) in
    let f : a.0 % n ≡ b.0 % n = pos_same _ _ (sym (int_rem_euclid_is y (pos n) n t a.0 some refl a.1) ∙ e ∙ int_rem_euclid_is z (pos n) n t b.0 some refl b.1) in
    let u = a.1 in
    let v = b.1 in
    by_lt_z y z
    (λ l. let g : a.0 ≡ b.0 = mod_near a.0 b.0 n some (omega (arith, ints)) (omega (arith, ints)) f in omega (arith, ints))
    (λ l. let g : b.0 ≡ a.0 = mod_near b.0 a.0 n some (omega (arith, ints)) (omega (arith, ints)) (sym f) in omega (arith, ints))

-- two points that lie within the fold of one another in each folded coordinate
abbrev pub Near : List Room → List ℤ → List ℤ → Type 0
Near [] p q = Unit {0}
Near (Straight o n ∷ rs) (y ∷ ys) (z ∷ zs) = Near rs ys zs
Near (Wrapped n ∷ rs) (y ∷ ys) (z ∷ zs) = (y <ℤ (z +ℤ pos n)) × (z <ℤ (y +ℤ pos n)) × Near rs ys zs
Near (Straight o n ∷ rs) [] q = Unit {0}
Near (Straight o n ∷ rs) (y ∷ ys) [] = Unit {0}
Near (Wrapped n ∷ rs) [] q = Unit {0}
Near (Wrapped n ∷ rs) (y ∷ ys) [] = Unit {0}

near_same : (rs : List Room) (p q : List ℤ) (k : List ℕ) → Near rs p q → place rs p ≡ Some k → place rs q ≡ Some k → p ≡ q
near_same [] [] [] k h e f = refl
near_same [] [] (z ∷ zs) k h e f = absurd (cc f)
near_same [] (z ∷ zs) q k h e f = absurd (cc e)
near_same (Wrapped n ∷ rs) [] q k h e f = absurd (cc e)
near_same (Wrapped n ∷ rs) (y ∷ ys) [] k h e f = absurd (cc f)
near_same (Wrapped n ∷ rs) (y ∷ ys) (z ∷ zs) [] h e f = absurd (joined_none _ _ e)
near_same (Wrapped n ∷ rs) (y ∷ ys) (z ∷ zs) (k ∷ ks) h e f =
    let a = joined_parts _ _ k ks e in
    let b = joined_parts _ _ k ks f in
    let u : int_rem_euclid y (pos n) ≡ pos k = below_some n k _ a.0 in
    let v : int_rem_euclid z (pos n) ≡ pos k = below_some n k _ b.0 in
    let yz : y ≡ z = rem_near n y z h.0 h.1 (u ∙ sym v) in
    let rest : ys ≡ zs = near_same rs ys zs ks h.2 a.1 b.1 in
    cc
near_same (Straight o n ∷ rs) [] q k h e f = absurd (cc e)
near_same (Straight o n ∷ rs) (y ∷ ys) [] k h e f = absurd (cc f)
near_same (Straight o n ∷ rs) (y ∷ ys) (z ∷ zs) [] h e f = absurd (joined_none _ _ e)
near_same (Straight o n ∷ rs) (y ∷ ys) (z ∷ zs) (k ∷ ks) h e f =
    let a = joined_parts _ _ k ks e in
    let b = joined_parts _ _ k ks f in
    let u : y -ℤ o ≡ pos k = below_some n k _ a.0 in
    let v : z -ℤ o ≡ pos k = below_some n k _ b.0 in
    let yz : y ≡ z = omega (arith, ints) in
    let rest : ys ≡ zs = near_same rs ys zs ks h a.1 b.1 in
    cc

-- near points have places of their own
pub near_apart : (rs : List Room) (p q : List ℤ) → Near rs p q → IsSome (place rs p) → place rs p ≡ place rs q → p ≡ q
near_apart rs p q h some e = of (place rs p) refl some
  where
    of : (o : Option (List ℕ)) → place rs p ≡ o → IsSome o → p ≡ q
    of None g k = absurd (cc k)
    of (Some k) g _ = near_same rs p q k h g (sym e ∙ g)

rem_some : (n : ℕ) (z : ℤ) → 0 < n → (m : ℕ) × (int_rem_euclid z (pos n) ≡ pos m) × (m < n)
rem_some n z some =
    let a = raised z (unsigned_abs z) n some (omega arith) in
    (a.0 % n, int_rem_euclid_is z (pos n) n (unsigned_abs z) a.0 some refl a.1, mod-lt a.0 some)

-- each number has a place in a fold
pub fold_has : (n : ℕ) (z : ℤ) → 0 < n → IsSome (seat (Wrapped n) z)
fold_has n z some = let m = rem_some n z some in rw m.1 (below_has n (pos m.0) (omega (arith, ints)) (omega (arith, ints, m.2)))

abbrev pub AreStraight : List Room → Type 0
AreStraight [] = Unit {0}
AreStraight (Straight o n ∷ rs) = AreStraight rs
AreStraight (Wrapped n ∷ rs) = ⊥

-- where nothing is folded all points are near
pub straight_near : (rs : List Room) (p q : List ℤ) → AreStraight rs → Near rs p q
straight_near [] p q h = tt
straight_near (Wrapped n ∷ rs) p q h = absurd h
straight_near (Straight o n ∷ rs) [] q h = tt
straight_near (Straight o n ∷ rs) (y ∷ ys) [] h = tt
straight_near (Straight o n ∷ rs) (y ∷ ys) (z ∷ zs) h = straight_near rs ys zs h
