-- The first number of a block and a number within it, added, are a number of 32 bits, where the ends are.
use Rattle.std.proofs.Common.{◌≡◌, ℕ, suc, ◌+◌, ◌*◌, ◌-◌, ◌<◌, ◌≤◌, ◌^◌, Bool, true, false, ◌&&◌, ◌||◌, List, [], ◌∷◌, length, Some, refl, sym, ap, ◌∙◌, subst, arith}
use Rattle.std.specs.Prelude.{ℤ, pos, negsuc, ◌+ℤ◌, ◌*ℤ◌, ◌≤ℤ◌, nat_lt, ◌==◌, if◌then◌else◌, slice_get}
use Rattle.std.specs.Int.RustNames.{unsigned_abs}
use Rattle.std.proofs.lemmas.Bool.Decides.{nat_tests}
use Rattle.std.proofs.lemmas.Int.{ints}
use Rattle.numeric.specs.declared.ty.Ty.TheVariants.{I32}
use Rattle.numeric.specs.Wrap.{least, greatest}
use Rattle.lin.specs.Forms.{Form, number, in_front, plus_term, plus_multiple, is_within_limits, combined}
use Rattle.lin.specs.Search.{at_most}
use Rattle.lin.specs.declared.scope.Binding.{Binding}
use Rattle.lin.specs.declared.scope.Binding.TheVariants.{Loop as Bound}
use Rattle.lin.specs.declared.span.Span1.{Span1}
use Rattle.lin.proofs.Limits.{combined-made}
use Rattle.soundness.specs.Obligations.{exactly}
use Rattle.rules.specs.Bounding.Rules.{is_index_span}
use Rattle.completeness.proofs.GridScope.{number_limited}
use Rattle.completeness.proofs.SelfBounds.{found_below, still}
use Rattle.completeness.proofs.Searched.{one_of, numbers_made}
use Rattle.completeness.proofs.BlockSums.{multiple, pair, two_of, found_two, one_limited, two_limited}
use Rattle.completeness.proofs.BlockBounds.{two_above, two_below}
use Rattle.completeness.proofs.GuardSums.{left_over, limited_below}

-- ---- two loops from 0 on, with the first number added, are no less than a smaller number

module _ (scope : List Binding) (a b : ℕ) (less : a < b) (inside : b < length scope) (k m : ℕ) (few : suc k ≤ 1024) (more : suc m ≤ 1024) (x y : Span1) (there_a : slice_get scope a ≡ Some (Bound x))
    (there_b : slice_get scope b ≡ Some (Bound y)) (low : ℤ) (from : negsuc 2147483647 ≤ℤ low) (to : low ≤ℤ pos 2147483647) where
  abbrev c : ℤ
  c = pos (suc k)

  abbrev d : ℤ
  d = pos (suc m)

  abbrev rest : ℕ
  rest = length scope - suc b

  long : length scope ≡ suc (b + rest)
  long = omega (arith, inside)

  behind : nat_lt a b ≡ true
  behind = grind (arith, nat_tests, less)

  two_over : x.lower ≡ number (pos 0) ∷ [] → y.lower ≡ number (pos 0) ∷ [] → at_most scope (number (negsuc 2147483647)) (two_of low c a d b) ≡ true
  two_over first second =
      let first_number : ℤ = negsuc 2147483647 in
      let z : ℤ = first_number +ℤ negsuc 0 *ℤ low in
      let under : z ≤ℤ pos 0 = omega (arith, ints, from) in
      let z_near : unsigned_abs z ≤ 2 ^ 40 = omega (arith, ints, from, to) in
      let neg_a : negsuc 0 *ℤ pos (suc k) ≡ negsuc k = omega (arith, ints) in
      let neg_b : negsuc 0 *ℤ pos (suc m) ≡ negsuc m = omega (arith, ints) in
      let is : plus_multiple (number first_number) (negsuc 0) (two_of low c a d b) ≡ two_of z (negsuc k) a (negsuc m) b =
      (λ j. record { constant = z; terms = plus_term (in_front (multiple a (neg_a j)) []) (multiple b (neg_b j)) })
      ∙ (λ j. record {
        constant = z;
        terms = if behind j then multiple a (negsuc k) ∷ multiple b (negsuc m) ∷ []
            else (if a == b then in_front (record { symbol = b; factor = negsuc k +ℤ negsuc m }) [] else in_front (multiple b (negsuc m)) (multiple a (negsuc k) ∷ []));
      }) in
      let limited_sum = two_limited z (negsuc k) a (negsuc m) b z_near (omega (arith, few)) (omega (arith, more)) in
      let low_near : unsigned_abs low ≤ 2 ^ 40 = omega (arith, ints, from, to) in
      let first_near : unsigned_abs first_number ≤ 2 ^ 40 = omega (arith, ints) in
      let made : combined (number first_number) (negsuc 0) (two_of low c a d b) ≡ Some (two_of z (negsuc k) a (negsuc m) b) =
      combined-made (number first_number) (two_of low c a d b) (negsuc 0) (number_limited first_number first_near) (two_limited low c a d b low_near (omega (arith, few)) (omega (arith, more)))
      (ap is_within_limits is ∙ limited_sum) ∙ ap (λ (f : Form). Some f) is in
      let mid : ℤ = z +ℤ negsuc m *ℤ pos 0 in
      let mid_is : mid ≡ z = nothing z m in
      let mid_near : unsigned_abs mid ≤ 2 ^ 40 = subst (λ (w : ℤ). unsigned_abs w ≤ 2 ^ 40) (sym mid_is) z_near in
      let r : ℤ = mid +ℤ negsuc k *ℤ pos 0 in
      let r_is : r ≡ z = nothing mid k ∙ mid_is in
      let zero_near : unsigned_abs (pos 0) ≤ 2 ^ 40 = omega arith in
      let made_b : combined (one_of z (negsuc k) a) (negsuc m) (number (pos 0)) ≡ Some (one_of mid (negsuc k) a) =
      combined-made (one_of z (negsuc k) a) (number (pos 0)) (negsuc m) (one_limited z (negsuc k) a z_near (omega (arith, few))) (number_limited (pos 0) zero_near)
      (one_limited mid (negsuc k) a mid_near (omega (arith, few))) in
      let made_a = numbers_made mid (negsuc k) (pos 0) mid_near zero_near (subst (λ (w : ℤ). unsigned_abs w ≤ 2 ^ 40) (sym r_is) z_near) in
      found_below scope (number first_number) (two_of low c a d b) (two_of z (negsuc k) a (negsuc m) b) r made
      (found_two scope a b less z (negsuc k) (negsuc m) refl refl (Bound x) (Bound y) there_a there_b (number (pos 0)) (number (pos 0)) first second mid r made_b made_a rest long limited_sum)
      (still r (subst (λ (w : ℤ). w ≤ℤ pos 0) (sym r_is) under))
    where
      nothing : (z : ℤ) (m : ℕ) → (z +ℤ negsuc m *ℤ pos 0) ≡ z
      nothing z m = omega (arith, ints)

-- ---- blocks

module _ (scope : List Binding) (a b : ℕ) (differ : (a == b) ≡ false) (inside_a : a < length scope) (inside_b : b < length scope) (x y : Span1) (there_a : slice_get scope a ≡ Some (Bound x))
    (there_b : slice_get scope b ≡ Some (Bound y)) (t k : ℕ) (few : suc k ≤ 1024) (t_few : t ≤ 2 ^ 32) (all_few : t * suc k ≤ 2 ^ 32) (x_low : x.lower ≡ number (pos 0) ∷ [])
    (x_last : x.upper ≡ number (pos t) ∷ []) (y_low : y.lower ≡ number (pos 0) ∷ []) (y_last : y.upper ≡ number (pos k) ∷ []) (low : ℤ) (from : negsuc 2147483647 ≤ℤ low)
    (to : low ≤ℤ pos 2147483647) where
  low_near : unsigned_abs low ≤ 2 ^ 36
  low_near = omega (arith, ints, from, to)

  high_near : unsigned_abs (pos 2147483647) ≤ 2 ^ 37
  high_near = omega (arith, ints)

  t_near : unsigned_abs (pos t) ≤ 2 ^ 36
  t_near = omega (arith, t_few)

  k_near : unsigned_abs (pos k) ≤ 2 ^ 36
  k_near = omega (arith, few)

  times : pos (suc k) *ℤ pos t ≡ pos (t * suc k)
  times = omega (arith, ints)

  once : pos 1 *ℤ pos k ≡ pos k
  once = omega (arith, ints)

  outer_near : unsigned_abs (pos (suc k) *ℤ pos t) ≤ 2 ^ 37
  outer_near = subst (λ (z : ℤ). unsigned_abs z ≤ 2 ^ 37) (sym times) (by (t * suc k) all_few)
    where
      by : (p : ℕ) → p ≤ 2 ^ 32 → unsigned_abs (pos p) ≤ 2 ^ 37
      by p e = omega (arith, e)

  inner_near : unsigned_abs (pos 1 *ℤ pos k) ≤ 2 ^ 37
  inner_near = subst (λ (z : ℤ). unsigned_abs z ≤ 2 ^ 37) (sym once) (omega (arith, few))

  tops : (high p : ℤ) → (low +ℤ (p +ℤ pos k)) ≤ℤ high → (((low +ℤ pos k) +ℤ p) ≤ℤ high) × (((low +ℤ p) +ℤ pos k) ≤ℤ high)
  tops high p e = (omega (arith, ints, e), omega (arith, ints, e))

  by_form : (f : Form) → pair low a (pos (suc k)) b ≡ f → at_most scope (number (least I32)) f ≡ true → at_most scope f (number (greatest I32)) ≡ true →
      is_index_span scope (exactly (pair low a (pos (suc k)) b)) ≡ true
  by_form f is above below = ap (λ (g : Form). is_index_span scope (exactly g)) is ∙ (λ j. ((above j || false) && true) && ((below j || false) && true))

  pub pair_inside : (low +ℤ (pos (t * suc k) +ℤ pos k)) ≤ℤ pos 2147483647 → is_index_span scope (exactly (pair low a (pos (suc k)) b)) ≡ true
  pair_inside ends = of (nat_lt a b) refl
    where
      of : (v : Bool) → nat_lt a b ≡ v → is_index_span scope (exactly (pair low a (pos (suc k)) b)) ≡ true
      of true e =
          let less : a < b = grind (arith, nat_tests, e) in
          let is : pair low a (pos (suc k)) b ≡ two_of low (pos (suc k)) a (pos 1) b =
          (λ j. record { constant = low; terms = if e j then multiple a (pos (suc k)) ∷ multiple b (pos 1) ∷ [] else multiple b (pos 1) ∷ multiple a (pos (suc k)) ∷ [] }) in
          let sum : ((low +ℤ pos 1 *ℤ pos k) +ℤ pos (suc k) *ℤ pos t) ≤ℤ pos 2147483647 =
          subst (λ (z : ℤ). ((low +ℤ z) +ℤ pos (suc k) *ℤ pos t) ≤ℤ pos 2147483647) (sym once)
          (subst (λ (z : ℤ). ((low +ℤ pos k) +ℤ z) ≤ℤ pos 2147483647) (sym times) (tops (pos 2147483647) (pos (t * suc k)) ends).0) in
          by_form (two_of low (pos (suc k)) a (pos 1) b) is
          (two_over scope a b less inside_b k 0 few (omega arith) x y there_a there_b low from to x_low y_low)
          (two_below scope a b less inside_b k 0 few (omega arith) x y there_a there_b low low_near (pos t) (pos k) (pos 2147483647) x_last y_last t_near k_near outer_near inner_near high_near sum)
      of false e =
          let less : b < a = grind (arith, nat_tests, e, differ) in
          let is : pair low a (pos (suc k)) b ≡ two_of low (pos 1) b (pos (suc k)) a =
          (λ j. record { constant = low; terms = if e j then multiple a (pos (suc k)) ∷ multiple b (pos 1) ∷ [] else multiple b (pos 1) ∷ multiple a (pos (suc k)) ∷ [] }) in
          let sum : ((low +ℤ pos (suc k) *ℤ pos t) +ℤ pos 1 *ℤ pos k) ≤ℤ pos 2147483647 =
          subst (λ (z : ℤ). ((low +ℤ pos (suc k) *ℤ pos t) +ℤ z) ≤ℤ pos 2147483647) (sym once)
          (subst (λ (z : ℤ). ((low +ℤ z) +ℤ pos k) ≤ℤ pos 2147483647) (sym times) (tops (pos 2147483647) (pos (t * suc k)) ends).1) in
          by_form (two_of low (pos 1) b (pos (suc k)) a) is
          (two_over scope b a less inside_a 0 k (omega arith) few y x there_b there_a low from to y_low x_low)
          (two_below scope b a less inside_a 0 k (omega arith) few y x there_b there_a low low_near (pos k) (pos t) (pos 2147483647) y_last x_last k_near t_near inner_near outer_near high_near sum)

  -- it is at least the first number, and at most what they come to
  pub pair_bounds : (high : ℤ) → unsigned_abs high ≤ 2 ^ 37 → (low +ℤ (pos (t * suc k) +ℤ pos k)) ≤ℤ high →
      (at_most scope (number low) (pair low a (pos (suc k)) b) ≡ true) × (at_most scope (pair low a (pos (suc k)) b) (number high) ≡ true)
  pair_bounds high near top = of (nat_lt a b) refl
    where
      of : (v : Bool) → nat_lt a b ≡ v → (at_most scope (number low) (pair low a (pos (suc k)) b) ≡ true) × (at_most scope (pair low a (pos (suc k)) b) (number high) ≡ true)
      of true e =
          let less : a < b = grind (arith, nat_tests, e) in
          let is : pair low a (pos (suc k)) b ≡ two_of low (pos (suc k)) a (pos 1) b =
          (λ j. record { constant = low; terms = if e j then multiple a (pos (suc k)) ∷ multiple b (pos 1) ∷ [] else multiple b (pos 1) ∷ multiple a (pos (suc k)) ∷ [] }) in
          let sum : ((low +ℤ pos 1 *ℤ pos k) +ℤ pos (suc k) *ℤ pos t) ≤ℤ high =
          subst (λ (z : ℤ). ((low +ℤ z) +ℤ pos (suc k) *ℤ pos t) ≤ℤ high) (sym once)
          (subst (λ (z : ℤ). ((low +ℤ pos k) +ℤ z) ≤ℤ high) (sym times) (tops high (pos (t * suc k)) top).0) in
          let above = two_above scope a b less inside_b k 0 few (omega arith) x y there_a there_b low low_near x_low y_low in
          let below = two_below scope a b less inside_b k 0 few (omega arith) x y there_a there_b low low_near (pos t) (pos k) high x_last y_last t_near k_near outer_near inner_near near sum in
          (ap (at_most scope (number low)) is ∙ above, ap (λ (f : Form). at_most scope f (number high)) is ∙ below)
      of false e =
          let less : b < a = grind (arith, nat_tests, e, differ) in
          let is : pair low a (pos (suc k)) b ≡ two_of low (pos 1) b (pos (suc k)) a =
          (λ j. record { constant = low; terms = if e j then multiple a (pos (suc k)) ∷ multiple b (pos 1) ∷ [] else multiple b (pos 1) ∷ multiple a (pos (suc k)) ∷ [] }) in
          let sum : ((low +ℤ pos (suc k) *ℤ pos t) +ℤ pos 1 *ℤ pos k) ≤ℤ high =
          subst (λ (z : ℤ). ((low +ℤ pos (suc k) *ℤ pos t) +ℤ z) ≤ℤ high) (sym once)
          (subst (λ (z : ℤ). ((low +ℤ z) +ℤ pos k) ≤ℤ high) (sym times) (tops high (pos (t * suc k)) top).1) in
          let above = two_above scope b a less inside_a 0 k (omega arith) few y x there_b there_a low low_near y_low x_low in
          let below = two_below scope b a less inside_a 0 k (omega arith) few y x there_b there_a low low_near (pos k) (pos t) high y_last x_last k_near t_near inner_near outer_near near sum in
          (ap (at_most scope (number low)) is ∙ above, ap (λ (f : Form). at_most scope f (number high)) is ∙ below)

-- ---- blocks that a guard keeps within the loop

module _ (scope : List Binding) (a b : ℕ) (less : a < b) (inside : b < length scope) (t k : ℕ) (few : suc k ≤ 1024) (t_few : t ≤ 2 ^ 32) (all_few : t * suc k ≤ 2 ^ 32) (x y : Span1)
    (there_a : slice_get scope a ≡ Some (Bound x)) (there_b : slice_get scope b ≡ Some (Bound y)) (low last : ℤ) (x_low : x.lower ≡ number (pos 0) ∷ []) (x_last : x.upper ≡ number (pos t) ∷ [])
    (y_low : y.lower ≡ number (pos 0) ∷ []) (y_last : y.upper ≡ number (pos k) ∷ left_over last low (pos (suc k)) a ∷ []) (from : negsuc 2147483647 ≤ℤ low) (to : low ≤ℤ pos 2147483647)
    (last_near : unsigned_abs last ≤ 2 ^ 36) where
  kept_low_near : unsigned_abs low ≤ 2 ^ 36
  kept_low_near = omega (arith, ints, from, to)

  kept_top_near : unsigned_abs (pos t) ≤ 2 ^ 36
  kept_top_near = omega (arith, t_few)

  kept_times : unsigned_abs (pos (suc k) *ℤ pos t) ≤ 2 ^ 38
  kept_times = subst (λ (z : ℤ). unsigned_abs z ≤ 2 ^ 38) (sym times_are) (by (t * suc k) all_few)
    where
      times_are : pos (suc k) *ℤ pos t ≡ pos (t * suc k)
      times_are = omega (arith, ints)

      by : (p : ℕ) → p ≤ 2 ^ 32 → unsigned_abs (pos p) ≤ 2 ^ 38
      by p e = omega (arith, e)

  -- at most any number that the last one is at most
  pub kept_under : (high : ℤ) → unsigned_abs high ≤ 2 ^ 37 → last ≤ℤ high → at_most scope (two_of low (pos (suc k)) a (pos 1) b) (number high) ≡ true
  kept_under high near le = limited_below scope a b less inside k t few x y there_a there_b low last kept_low_near last_near x_last y_last kept_top_near kept_times high near le

  pub kept_inside : last ≤ℤ pos 2147483647 → is_index_span scope (exactly (two_of low (pos (suc k)) a (pos 1) b)) ≡ true
  kept_inside ends =
      let above = two_over scope a b less inside k 0 few (omega arith) x y there_a there_b low from to x_low y_low in
      let below = kept_under (pos 2147483647) (omega (arith, ints)) ends in
      λ j. ((above j || false) && true) && ((below j || false) && true)
