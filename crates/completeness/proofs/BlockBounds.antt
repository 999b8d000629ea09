-- What the search finds of a block's numbers, and of positions over two loops from 0 on.
use Rattle.std.proofs.Common.{◌≡◌, ℕ, suc, ◌+◌, ◌-◌, ◌<◌, ◌≤◌, ◌^◌, true, List, [], ◌∷◌, length, Some, refl, sym, ap, ◌∙◌, subst, arith}
use Rattle.std.specs.Prelude.{ℤ, pos, negsuc, ◌+ℤ◌, ◌*ℤ◌, ◌≤ℤ◌, nat_lt, ◌==◌, if◌then◌else◌, slice_get}
use Rattle.std.specs.Int.RustNames.{unsigned_abs}
use Rattle.std.proofs.lemmas.Bool.Decides.{nat_tests}
use Rattle.std.proofs.lemmas.Int.{ints}
use Rattle.lin.specs.Forms.{Form, number, in_front, plus_term, plus_multiple, is_within_limits, combined}
use Rattle.lin.specs.Search.{at_most}
use Rattle.lin.specs.declared.scope.Binding.{Binding}
use Rattle.lin.specs.declared.scope.Binding.TheVariants.{Loop as Bound}
use Rattle.lin.specs.declared.span.Span1.{Span1}
use Rattle.lin.proofs.Limits.{combined-made}
use Rattle.soundness.specs.Shown.{raised}
use Rattle.completeness.proofs.GridScope.{number_limited}
use Rattle.completeness.proofs.SelfBounds.{term_gone, found_below, still}
use Rattle.completeness.proofs.Searched.{one_of, found, numbers_made}
use Rattle.completeness.proofs.BlockSums.{multiple, two_of, found_two, one_limited, two_limited}

-- ---- sums of numbers

less_itself : (z : ℤ) → unsigned_abs (z +ℤ negsuc 0 *ℤ z) ≤ 0
less_itself z = omega (arith, ints)

sum_near : (a b : ℤ) (m n k : ℕ) → unsigned_abs a ≤ m → unsigned_abs b ≤ n → m + n ≤ k → unsigned_abs (a +ℤ b) ≤ k
sum_near a b m n k h g le = omega (arith, ints, h, g, le)

less_near : (a b : ℤ) → unsigned_abs a ≤ 2 ^ 37 → unsigned_abs b ≤ 2 ^ 37 → unsigned_abs (a +ℤ negsuc 0 *ℤ b) ≤ 2 ^ 38
less_near a b h g = omega (arith, ints, h, g)

-- ---- two loops from 0 on

module _ (scope : List Binding) (a b : ℕ) (less : a < b) (inside : b < length scope) (k m : ℕ) (few : suc k ≤ 1024) (more : suc m ≤ 1024) (x y : Span1) (there_a : slice_get scope a ≡ Some (Bound x))
    (there_b : slice_get scope b ≡ Some (Bound y)) (low : ℤ) (near : unsigned_abs low ≤ 2 ^ 36) where
  abbrev c : ℤ
  c = pos (suc k)

  abbrev d : ℤ
  d = pos (suc m)

  abbrev rest : ℕ
  rest = length scope - suc b

  long : length scope ≡ suc (b + rest)
  long = omega (arith, inside)

  behind : nat_lt a b ≡ true
  behind = grind (arith, nat_tests, less)

  -- they are at least the number
  pub two_above : x.lower ≡ number (pos 0) ∷ [] → y.lower ≡ number (pos 0) ∷ [] → at_most scope (number low) (two_of low c a d b) ≡ true
  two_above first second =
      let z : ℤ = low +ℤ negsuc 0 *ℤ low in
      let none = less_itself low in
      let z_near : unsigned_abs z ≤ 2 ^ 40 = omega (arith, none) in
      let neg_a : negsuc 0 *ℤ pos (suc k) ≡ negsuc k = omega (arith, ints) in
      let neg_b : negsuc 0 *ℤ pos (suc m) ≡ negsuc m = omega (arith, ints) in
      let is : plus_multiple (number low) (negsuc 0) (two_of low c a d b) ≡ two_of z (negsuc k) a (negsuc m) b =
      (λ j. record { constant = z; terms = plus_term (in_front (multiple a (neg_a j)) []) (multiple b (neg_b j)) })
      ∙ (λ j. record {
        constant = z;
        terms = if behind j then multiple a (negsuc k) ∷ multiple b (negsuc m) ∷ []
            else (if a == b then in_front (record { symbol = b; factor = negsuc k +ℤ negsuc m }) [] else in_front (multiple b (negsuc m)) (multiple a (negsuc k) ∷ []));
      }) in
      let limited_sum = two_limited z (negsuc k) a (negsuc m) b z_near (omega (arith, few)) (omega (arith, more)) in
      let made : combined (number low) (negsuc 0) (two_of low c a d b) ≡ Some (two_of z (negsuc k) a (negsuc m) b) =
      combined-made (number low) (two_of low c a d b) (negsuc 0) (number_limited low (omega (arith, near))) (two_limited low c a d b (omega (arith, near)) (omega (arith, few)) (omega (arith, more)))
      (ap is_within_limits is ∙ limited_sum) ∙ ap (λ (f : Form). Some f) is in
      let mid : ℤ = z +ℤ negsuc m *ℤ pos 0 in
      let mid_is : mid ≡ z = omega (arith, ints) in
      let mid_near : unsigned_abs mid ≤ 2 ^ 40 = subst (λ (w : ℤ). unsigned_abs w ≤ 2 ^ 40) (sym mid_is) z_near in
      let r : ℤ = mid +ℤ negsuc k *ℤ pos 0 in
      let r_is : r ≡ pos 0 = omega (arith, ints) in
      let zero_near : unsigned_abs (pos 0) ≤ 2 ^ 40 = omega arith in
      let made_b : combined (one_of z (negsuc k) a) (negsuc m) (number (pos 0)) ≡ Some (one_of mid (negsuc k) a) =
      combined-made (one_of z (negsuc k) a) (number (pos 0)) (negsuc m) (one_limited z (negsuc k) a z_near (omega (arith, few))) (number_limited (pos 0) zero_near)
      (one_limited mid (negsuc k) a mid_near (omega (arith, few))) in
      let made_a = numbers_made mid (negsuc k) (pos 0) mid_near zero_near (subst (λ (w : ℤ). unsigned_abs w ≤ 2 ^ 40) (sym r_is) zero_near) in
      found_below scope (number low) (two_of low c a d b) (two_of z (negsuc k) a (negsuc m) b) r made
      (found_two scope a b less z (negsuc k) (negsuc m) refl refl (Bound x) (Bound y) there_a there_b (number (pos 0)) (number (pos 0)) first second mid r made_b made_a rest long limited_sum)
      (still r (omega (arith, ints, r_is)))

  -- and at most one that is at least what they come to
  pub two_below : (e f high : ℤ) → x.upper ≡ number e ∷ [] → y.upper ≡ number f ∷ [] → unsigned_abs e ≤ 2 ^ 36 → unsigned_abs f ≤ 2 ^ 36 → unsigned_abs (c *ℤ e) ≤ 2 ^ 37 →
      unsigned_abs (d *ℤ f) ≤ 2 ^ 37 →
      unsigned_abs high ≤ 2 ^ 37 → ((low +ℤ d *ℤ f) +ℤ c *ℤ e) ≤ℤ high → at_most scope (two_of low c a d b) (number high) ≡ true
  two_below e f high first second e_near f_near ce_near df_near high_near top =
      let z : ℤ = low +ℤ negsuc 0 *ℤ high in
      let half = less_near low high (omega (arith, near)) high_near in
      let limited_sum = two_limited z c a d b (omega (arith, half)) (omega (arith, few)) (omega (arith, more)) in
      let made : combined (two_of low c a d b) (negsuc 0) (number high) ≡ Some (two_of z c a d b) =
      combined-made (two_of low c a d b) (number high) (negsuc 0) (two_limited low c a d b (omega (arith, near)) (omega (arith, few)) (omega (arith, more)))
      (number_limited high (omega (arith, high_near)))
      limited_sum in
      let mid : ℤ = z +ℤ d *ℤ f in
      let mid_near : unsigned_abs mid ≤ 2 ^ 39 = sum_near z (d *ℤ f) (2 ^ 38) (2 ^ 37) (2 ^ 39) half df_near (omega arith) in
      let r : ℤ = mid +ℤ c *ℤ e in
      let r_near : unsigned_abs r ≤ 2 ^ 40 = sum_near mid (c *ℤ e) (2 ^ 39) (2 ^ 37) (2 ^ 40) mid_near ce_near (omega arith) in
      let made_b : combined (one_of z c a) d (number f) ≡ Some (one_of mid c a) =
      combined-made (one_of z c a) (number f) d (one_limited z c a (omega (arith, half)) (omega (arith, few))) (number_limited f (omega (arith, f_near)))
      (one_limited mid c a (omega (arith, mid_near)) (omega (arith, few))) in
      let made_a = numbers_made mid c e (omega (arith, mid_near)) (omega (arith, e_near)) r_near in
      found_below scope (two_of low c a d b) (number high) (two_of z c a d b) r made
      (found_two scope a b less z c d refl refl (Bound x) (Bound y) there_a there_b (number e) (number f) first second mid r made_b made_a rest long limited_sum)
      (still r (under_it low high (d *ℤ f) (c *ℤ e) top))
    where
      under_it : (l h p q : ℤ) → ((l +ℤ p) +ℤ q) ≤ℤ h → (((l +ℤ negsuc 0 *ℤ h) +ℤ p) +ℤ q) ≤ℤ pos 0
      under_it l h p q le = omega (arith, ints, le)

-- ---- a block's numbers

module _ (scope : List Binding) (s m : ℕ) (less : s < m) (inside : m < length scope) (k : ℕ) (few : suc k ≤ 1024) (y : Span1) (there : slice_get scope m ≡ Some (Bound y)) (low : ℤ)
    (near : unsigned_abs low ≤ 2 ^ 36) where
  pub block_above : y.lower ≡ number (pos 0) ∷ [] → at_most scope (one_of low (pos (suc k)) s) (two_of low (pos (suc k)) s (pos 1) m) ≡ true
  block_above first =
      let z : ℤ = low +ℤ negsuc 0 *ℤ low in
      let none = less_itself low in
      let z_near : unsigned_abs z ≤ 2 ^ 40 = omega (arith, none) in
      let gone = term_gone (multiple s (pos (suc k))) [] in
      let is : plus_multiple (one_of low (pos (suc k)) s) (negsuc 0) (two_of low (pos (suc k)) s (pos 1) m) ≡ one_of z (negsuc 0) m =
      (λ j. record { constant = z; terms = plus_term (gone j) (multiple m (negsuc 0 *ℤ pos 1)) }) in
      let limited_sum = one_limited z (negsuc 0) m z_near (omega arith) in
      let made : combined (one_of low (pos (suc k)) s) (negsuc 0) (two_of low (pos (suc k)) s (pos 1) m) ≡ Some (one_of z (negsuc 0) m) =
      combined-made (one_of low (pos (suc k)) s) (two_of low (pos (suc k)) s (pos 1) m) (negsuc 0) (one_limited low (pos (suc k)) s (omega (arith, near)) (omega (arith, few)))
      (two_limited low (pos (suc k)) s (pos 1) m (omega (arith, near)) (omega (arith, few)) (omega arith)) (ap is_within_limits is ∙ limited_sum) ∙ ap (λ (f : Form). Some f) is in
      let r : ℤ = z +ℤ negsuc 0 *ℤ pos 0 in
      let r_is : r ≡ pos 0 = omega (arith, ints) in
      let zero_near : unsigned_abs (pos 0) ≤ 2 ^ 40 = omega arith in
      let sum = numbers_made z (negsuc 0) (pos 0) z_near zero_near (subst (λ (w : ℤ). unsigned_abs w ≤ 2 ^ 40) (sym r_is) zero_near) in
      found_below scope (one_of low (pos (suc k)) s) (two_of low (pos (suc k)) s (pos 1) m) (one_of z (negsuc 0) m) r made
      (found scope m z (negsuc 0) r refl (Bound y) there (number (pos 0)) first sum inside limited_sum) (still r (omega (arith, ints, r_is)))

  pub block_below : y.upper ≡ number (pos k) ∷ [] → at_most scope (two_of low (pos (suc k)) s (pos 1) m) (raised (one_of low (pos (suc k)) s) (pos k)) ≡ true
  block_below last =
      let z : ℤ = low +ℤ negsuc 0 *ℤ (low +ℤ pos k) in
      let z_is : z ≡ negsuc 0 *ℤ pos k = omega (arith, ints) in
      let z_near : unsigned_abs z ≤ 2 ^ 40 = subst (λ (w : ℤ). unsigned_abs w ≤ 2 ^ 40) (sym z_is) (omega (arith, ints, few)) in
      let gone = term_gone (multiple s (pos (suc k))) (multiple m (pos 1) ∷ []) in
      let is : plus_multiple (two_of low (pos (suc k)) s (pos 1) m) (negsuc 0) (raised (one_of low (pos (suc k)) s) (pos k)) ≡ one_of z (pos 1) m = (λ j. record { constant = z; terms = gone j }) in
      let limited_sum = one_limited z (pos 1) m z_near (omega arith) in
      let top_near : unsigned_abs (low +ℤ pos k) ≤ 2 ^ 40 = sum_near low (pos k) (2 ^ 36) 1024 (2 ^ 40) near (omega (arith, few)) (omega arith) in
      let made : combined (two_of low (pos (suc k)) s (pos 1) m) (negsuc 0) (raised (one_of low (pos (suc k)) s) (pos k)) ≡ Some (one_of z (pos 1) m) =
      combined-made (two_of low (pos (suc k)) s (pos 1) m) (raised (one_of low (pos (suc k)) s) (pos k)) (negsuc 0)
      (two_limited low (pos (suc k)) s (pos 1) m (omega (arith, near)) (omega (arith, few)) (omega arith)) (one_limited (low +ℤ pos k) (pos (suc k)) s top_near (omega (arith, few)))
      (ap is_within_limits is ∙ limited_sum) ∙ ap (λ (f : Form). Some f) is in
      let r : ℤ = z +ℤ pos 1 *ℤ pos k in
      let r_is : r ≡ pos 0 = omega (arith, ints) in
      let zero_near : unsigned_abs (pos 0) ≤ 2 ^ 40 = omega arith in
      let sum = numbers_made z (pos 1) (pos k) z_near (omega (arith, few)) (subst (λ (w : ℤ). unsigned_abs w ≤ 2 ^ 40) (sym r_is) zero_near) in
      found_below scope (two_of low (pos (suc k)) s (pos 1) m) (raised (one_of low (pos (suc k)) s) (pos k)) (one_of z (pos 1) m) r made
      (found scope m z (pos 1) r refl (Bound y) there (number (pos k)) last sum inside limited_sum) (still r (omega (arith, ints, r_is)))
