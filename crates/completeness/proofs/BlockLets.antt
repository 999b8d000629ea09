-- The positions of blocks that a let tells of are between the ends of the split loop: of a guarded split whose outer loop stands inside of the inner one the let is the position, and of a shifted
-- split it is the first number of the block.
use Rattle.std.proofs.Common.{◌≡◌, ℕ, suc, ◌+◌, ◌*◌, ◌<◌, ◌≤◌, ◌^◌, Bool, true, false, ◌&&◌, ◌||◌, List, [], ◌∷◌, length, Option, Some, refl, sym, ap, ◌∙◌, subst, arith}
use Rattle.std.specs.Prelude.{ℤ, pos, negsuc, ◌+ℤ◌, ◌*ℤ◌, ◌≤ℤ◌, ◌==◌, nat_lt, if◌then◌else◌, slice_get}
use Rattle.std.specs.Int.RustNames.{unsigned_abs}
use Rattle.std.proofs.lemmas.Bool.Decides.{nat_tests}
use Rattle.std.proofs.lemmas.Int.{ints}
use Rattle.lin.specs.Forms.{Form, number, is_zero, in_front, plus_term, plus_multiple, is_within_limits, combined}
use Rattle.lin.specs.Search.{candidates, any_may_be, pick, least, replacements, at_most}
use Rattle.lin.specs.declared.scope.Binding.{Binding}
use Rattle.lin.specs.declared.scope.Binding.TheVariants.{Loop as Bound, LetMin}
use Rattle.lin.specs.declared.span.Span1.{Span1}
use Rattle.lin.proofs.Limits.{combined-made}
use Rattle.soundness.specs.Obligations.{exactly}
use Rattle.soundness.specs.Shown.{raised}
use Rattle.rules.specs.Bounding.Rules.{is_index_span}
use Rattle.sched.specs.Standing.{alone}
use Rattle.completeness.proofs.GridScope.{number_limited}
use Rattle.completeness.proofs.SelfBounds.{least_number, no_replacements, found_below, still, term_gone}
use Rattle.completeness.proofs.Searched.{one_of, found, numbers_made, least_is, replacements_are}
use Rattle.completeness.proofs.BlockSums.{multiple, pair, two_of, one_limited, two_limited}
use Rattle.completeness.proofs.TopSums.{sum_of, sum_first, sum_second, both_found, shown_by, least_top, count_top, least_both, count_both, one_factor, one_free, one_gone, two_factor}
use Rattle.completeness.proofs.TopSums.{two_free, two_gone}
use Rattle.completeness.proofs.LetSums.{let_under, let_over, still_second, still_both}

-- ---- forms

sum_limited : (z : ℤ) (a : ℕ) (c : ℤ) (b : ℕ) (d : ℤ) → unsigned_abs z ≤ 2 ^ 40 → unsigned_abs c ≤ 2 ^ 20 → unsigned_abs d ≤ 2 ^ 20 → is_within_limits (sum_of z a c b d) ≡ true
sum_limited z a c b d near c_few d_few = of (nat_lt a b)
  where
    of : (v : Bool) → is_within_limits (record { constant = z; terms = if v then multiple a c ∷ multiple b d ∷ [] else multiple b d ∷ multiple a c ∷ [] }) ≡ true
    of true = two_limited z c a d b near c_few d_few
    of false = two_limited z d b c a near d_few c_few

-- a number and a multiple of such a sum
module _ (y e z c d c' d' : ℤ) (times_c : e *ℤ c ≡ c') (times_d : e *ℤ d ≡ d') (some_c : is_zero c' ≡ false) (some_d : is_zero d' ≡ false) (y_near : unsigned_abs y ≤ 2 ^ 40)
    (z_near : unsigned_abs z ≤ 2 ^ 40) (sum_near : unsigned_abs (y +ℤ e *ℤ z) ≤ 2 ^ 40) (c_few : unsigned_abs c ≤ 2 ^ 20) (d_few : unsigned_abs d ≤ 2 ^ 20) (c'_few : unsigned_abs c' ≤ 2 ^ 20)
    (d'_few : unsigned_abs d' ≤ 2 ^ 20) where
  in_order : (u v : ℤ) (a b : ℕ) → a < b → (u' v' : ℤ) → e *ℤ u ≡ u' → e *ℤ v ≡ v' → is_zero u' ≡ false → is_zero v' ≡ false →
      plus_multiple (number y) e (two_of z u a v b) ≡ two_of (y +ℤ e *ℤ z) u' a v' b
  in_order u v a b less u' v' times_u times_v some_u some_v =
      let behind : nat_lt a b ≡ true = grind (arith, nat_tests, less) in
      let at : ℤ = y +ℤ e *ℤ z in
      (λ j. record { constant = at; terms = plus_term (in_front (multiple a (times_u j)) []) (multiple b (times_v j)) })
      ∙ (λ j. record { constant = at; terms = plus_term (if some_u j then [] else multiple a u' ∷ []) (multiple b v') })
      ∙ (λ j. record {
        constant = at;
        terms = if behind j then multiple a u' ∷ in_front (multiple b v') []
            else (if a == b then in_front (record { symbol = b; factor = u' +ℤ v' }) [] else in_front (multiple b v') (multiple a u' ∷ []));
      })
      ∙ (λ j. record { constant = at; terms = multiple a u' ∷ (if some_v j then [] else multiple b v' ∷ []) })

  sum_made : (a b : ℕ) → (a == b) ≡ false → combined (number y) e (sum_of z a c b d) ≡ Some (sum_of (y +ℤ e *ℤ z) a c' b d')
  sum_made a b differ =
      combined-made (number y) (sum_of z a c b d) e (number_limited y y_near) (sum_limited z a c b d z_near c_few d_few) (ap is_within_limits is ∙ sum_limited (y +ℤ e *ℤ z) a c' b d' sum_near c'_few
      d'_few) ∙ ap (λ (f : Form). Some f) is
    where
      of : (v : Bool) → nat_lt a b ≡ v → plus_multiple (number y) e (sum_of z a c b d) ≡ sum_of (y +ℤ e *ℤ z) a c' b d'
      of true q =
          let less : a < b = grind (arith, nat_tests, q) in
          ap (plus_multiple (number y) e) (sum_first z a c b d less) ∙ in_order c d a b less c' d' times_c times_d some_c some_d ∙ sym (sum_first (y +ℤ e *ℤ z) a c' b d' less)
      of false q =
          let less : b < a = grind (arith, nat_tests, q, differ) in
          ap (plus_multiple (number y) e) (sum_second z a c b d less) ∙ in_order d c b a less d' c' times_d times_c some_d some_c ∙ sym (sum_second (y +ℤ e *ℤ z) a c' b d' less)

      is : plus_multiple (number y) e (sum_of z a c b d) ≡ sum_of (y +ℤ e *ℤ z) a c' b d'
      is = of (nat_lt a b) refl

by_ends : (scope : List Binding) (f : Form) → at_most scope (number (negsuc 2147483647)) f ≡ true → at_most scope f (number (pos 2147483647)) ≡ true → is_index_span scope (exactly f) ≡ true
by_ends scope f above below = λ j. ((above j || false) && true) && ((below j || false) && true)

no_time : (z : ℤ) → z *ℤ pos 0 ≡ pos 0
no_time z = omega (arith, ints)

no_far : (z : ℤ) (m : ℕ) → unsigned_abs (z *ℤ pos 0) ≤ m
no_far z m = subst (λ (w : ℤ). unsigned_abs w ≤ m) (sym (no_time z)) (omega arith)

-- ---- a position that a let tells, behind a guard

module _ (scope : List Binding) (p : ℕ) (inside : p < length scope) (a b : ℕ) (differ : (a == b) ≡ false) (before_a : a < p) (before_b : b < p) (k t : ℕ) (few : suc k ≤ 1024) (t_few : t ≤ 2 ^ 32)
    (all_few : t * suc k ≤ 2 ^ 32) (x y : Span1) (there_a : slice_get scope a ≡ Some (Bound x)) (there_b : slice_get scope b ≡ Some (Bound y)) (x_low : x.lower ≡ number (pos 0) ∷ [])
    (x_last : x.upper ≡ number (pos t) ∷ []) (y_low : y.lower ≡ number (pos 0) ∷ []) (y_last : y.upper ≡ number (pos k) ∷ []) (low last : ℤ) (near : unsigned_abs low ≤ 2 ^ 36)
    (last_near : unsigned_abs last ≤ 2 ^ 36) (there : slice_get scope p ≡ Some (LetMin (pair low a (pos (suc k)) b ∷ number last ∷ []))) where
  factor_few : unsigned_abs (pos (suc k)) ≤ 2 ^ 20
  factor_few = omega (arith, few)

  times_near : unsigned_abs (pos (suc k) *ℤ pos t) ≤ 2 ^ 38
  times_near = subst (λ (z : ℤ). unsigned_abs z ≤ 2 ^ 38) (sym times_are) (by (t * suc k) all_few)
    where
      times_are : pos (suc k) *ℤ pos t ≡ pos (t * suc k)
      times_are = omega (arith, ints)

      by : (m : ℕ) → m ≤ 2 ^ 32 → unsigned_abs (pos m) ≤ 2 ^ 38
      by m e = omega (arith, e)

  pub kept_let_under : (high : ℤ) → unsigned_abs high ≤ 2 ^ 37 → last ≤ℤ high → at_most scope (alone p) (number high) ≡ true
  kept_let_under high high_near le =
      let z : ℤ = pos 0 +ℤ negsuc 0 *ℤ high in
      let z_near : unsigned_abs z ≤ 2 ^ 37 = turned high high_near in
      let sum_near : unsigned_abs (z +ℤ pos 1 *ℤ low) ≤ 2 ^ 38 = added z low z_near near in
      let one : pos 1 *ℤ pos (suc k) ≡ pos (suc k) = omega (arith, ints) in
      let made = sum_made z (pos 1) low (pos (suc k)) (pos 1) (pos (suc k)) (pos 1) one refl refl refl (omega (arith, z_near)) (omega (arith, near)) (omega (arith, sum_near)) factor_few (omega arith)
      factor_few (omega arith) a b differ in
      let both = both_found scope (Bound x) (Bound y) a b differ there_a there_b (z +ℤ pos 1 *ℤ low) (pos (suc k)) (pos 1) (pos t) (pos k) refl refl x_last y_last sum_near factor_few (omega arith)
      (omega (arith, t_few)) (omega (arith, few)) times_near (one_time k few) p before_a before_b in
      let_under scope p inside (pair low a (pos (suc k)) b) last last_near there high high_near le (sum_of (z +ℤ pos 1 *ℤ low) a (pos (suc k)) b (pos 1)) made 2 both.1 (omega arith)
    where
      turned : (z : ℤ) → unsigned_abs z ≤ 2 ^ 37 → unsigned_abs (pos 0 +ℤ negsuc 0 *ℤ z) ≤ 2 ^ 37
      turned z h = omega (arith, ints, h)

      added : (z w : ℤ) → unsigned_abs z ≤ 2 ^ 37 → unsigned_abs w ≤ 2 ^ 36 → unsigned_abs (z +ℤ pos 1 *ℤ w) ≤ 2 ^ 38
      added z w h g = omega (arith, ints, h, g)

      one_time : (n : ℕ) → suc n ≤ 1024 → unsigned_abs (pos 1 *ℤ pos n) ≤ 2 ^ 38
      one_time n h = omega (arith, ints, h)

  pub kept_let_over : (first : ℤ) → unsigned_abs first ≤ 2 ^ 37 → first ≤ℤ low → first ≤ℤ last → at_most scope (number first) (alone p) ≡ true
  kept_let_over first first_near le le_last =
      let z : ℤ = first +ℤ negsuc 0 *ℤ low in
      let z_near : unsigned_abs z ≤ 2 ^ 38 = less_near first low first_near near in
      let neg : negsuc 0 *ℤ pos (suc k) ≡ negsuc k = omega (arith, ints) in
      let neg_few : unsigned_abs (negsuc k) ≤ 2 ^ 20 = omega (arith, few) in
      let made = sum_made first (negsuc 0) low (pos (suc k)) (pos 1) (negsuc k) (negsuc 0) neg refl refl refl (omega (arith, first_near)) (omega (arith, near)) (omega (arith, z_near)) factor_few
      (omega arith) neg_few (omega arith) a b differ in
      let both = both_found scope (Bound x) (Bound y) a b differ there_a there_b z (negsuc k) (negsuc 0) (pos 0) (pos 0) refl refl x_low y_low z_near neg_few (omega arith) (omega arith) (omega arith)
      (no_far (negsuc k) (2 ^ 38)) (omega arith) p before_a before_b in
      let_over scope p inside (pair low a (pos (suc k)) b) last last_near there first first_near le_last (sum_of z a (negsuc k) b (negsuc 0)) ((z +ℤ negsuc 0 *ℤ pos 0) +ℤ negsuc k *ℤ pos 0) made
      both.0 (under_it first low (negsuc k *ℤ pos 0) (no_time (negsuc k)) le) 2 both.1 (omega arith)
    where
      less_near : (z w : ℤ) → unsigned_abs z ≤ 2 ^ 37 → unsigned_abs w ≤ 2 ^ 36 → unsigned_abs (z +ℤ negsuc 0 *ℤ w) ≤ 2 ^ 38
      less_near z w h g = omega (arith, ints, h, g)

      under_it : (u v w : ℤ) → w ≡ pos 0 → u ≤ℤ v → (((u +ℤ negsuc 0 *ℤ v) +ℤ negsuc 0 *ℤ pos 0) +ℤ w) ≤ℤ pos 0
      under_it u v w e h = omega (arith, ints, e, h)

  pub kept_let_inside : negsuc 2147483647 ≤ℤ low → low ≤ℤ last → last ≤ℤ pos 2147483647 → is_index_span scope (exactly (alone p)) ≡ true
  kept_let_inside from reaches ends =
      by_ends scope (alone p) (kept_let_over (negsuc 2147483647) (omega (arith, ints)) from (omega (arith, ints, from, reaches)))
      (kept_let_under (pos 2147483647) (omega (arith, ints)) ends)

-- ---- a number of a shifted block

module _ (scope : List Binding) (p i s : ℕ) (apart : (p == i) ≡ false) (differ : (i == s) ≡ false) (inside_p : p < length scope) (inside_i : i < length scope) (before : s < p) (k t : ℕ)
    (few : suc k ≤ 1024) (t_few : t ≤ 2 ^ 32) (all_few : t * suc k ≤ 2 ^ 32) (x y : Span1) (there_s : slice_get scope s ≡ Some (Bound x)) (there_i : slice_get scope i ≡ Some (Bound y))
    (x_low : x.lower ≡ number (pos 0) ∷ []) (x_last : x.upper ≡ number (pos t) ∷ []) (y_low : y.lower ≡ number (pos 0) ∷ []) (y_last : y.upper ≡ number (pos k) ∷ []) (low room : ℤ)
    (near : unsigned_abs low ≤ 2 ^ 36) (room_near : unsigned_abs room ≤ 2 ^ 36) (there : slice_get scope p ≡ Some (LetMin (one_of low (pos (suc k)) s ∷ number room ∷ []))) where
  abbrev let_here : Binding
  let_here = LetMin (one_of low (pos (suc k)) s ∷ number room ∷ [])

  block_few : unsigned_abs (pos (suc k)) ≤ 2 ^ 20
  block_few = omega (arith, few)

  blocks_near : unsigned_abs (pos (suc k) *ℤ pos t) ≤ 2 ^ 36
  blocks_near = subst (λ (z : ℤ). unsigned_abs z ≤ 2 ^ 36) (sym times_are) (by (t * suc k) all_few)
    where
      times_are : pos (suc k) *ℤ pos t ≡ pos (t * suc k)
      times_are = omega (arith, ints)

      by : (m : ℕ) → m ≤ 2 ^ 32 → unsigned_abs (pos m) ≤ 2 ^ 36
      by m e = omega (arith, e)

  -- what the search finds of a number and the same multiple of both
  module _ (e f z u v : ℤ) (some_e : is_zero e ≡ false) (some_f : is_zero f ≡ false) (times : e *ℤ pos (suc k) ≡ f) (one_s : candidates (Bound x) f ≡ number u ∷ [])
      (one_i : candidates (Bound y) e ≡ number v ∷ []) (z_near : unsigned_abs z ≤ 2 ^ 37) (e_few : unsigned_abs e ≤ 2 ^ 20) (f_few : unsigned_abs f ≤ 2 ^ 20) (u_near : unsigned_abs u ≤ 2 ^ 36)
      (v_near : unsigned_abs v ≤ 2 ^ 36) (fu : unsigned_abs (f *ℤ u) ≤ 2 ^ 36) (ev : unsigned_abs (e *ℤ v) ≤ 2 ^ 36) (el : unsigned_abs (e *ℤ low) ≤ 2 ^ 36)
      (er : unsigned_abs (e *ℤ room) ≤ 2 ^ 36) where
    record Comes : Type 0 where
      one : ℤ
      two : ℤ
      times_made : ℕ
      finds : least scope (length scope) (sum_of z p e i e) ≡ pick (any_may_be let_here e) (Some one) (Some two)
      counts : replacements scope (length scope) (sum_of z p e i e) ≡ times_made
      few_times : times_made ≤ 4096
      one_is : one ≡ ((z +ℤ e *ℤ low) +ℤ f *ℤ u) +ℤ e *ℤ v
      two_is : two ≡ (z +ℤ e *ℤ room) +ℤ e *ℤ v

    two_near : (m n : ℤ) (g h o : ℕ) → unsigned_abs m ≤ g → unsigned_abs n ≤ h → g + h ≤ o → unsigned_abs (m +ℤ n) ≤ o
    two_near m n g h o a b le = omega (arith, ints, a, b, le)

    start_limited : is_within_limits (one_of low (pos (suc k)) s) ≡ true
    start_limited = one_limited low (pos (suc k)) s (omega (arith, near)) block_few

    -- the let stands before the inner loop
    let_first : p < i → Comes
    let_first less =
        let mid : ℤ = z +ℤ e *ℤ v in
        let mid_near : unsigned_abs mid ≤ 2 ^ 38 = two_near z (e *ℤ v) (2 ^ 37) (2 ^ 36) (2 ^ 38) z_near ev (omega arith) in
        let first : ℤ = mid +ℤ e *ℤ low in
        let first_near : unsigned_abs first ≤ 2 ^ 39 = two_near mid (e *ℤ low) (2 ^ 38) (2 ^ 36) (2 ^ 39) mid_near el (omega arith) in
        let r : ℤ = first +ℤ f *ℤ u in
        let r_near : unsigned_abs r ≤ 2 ^ 40 = two_near first (f *ℤ u) (2 ^ 39) (2 ^ 36) (2 ^ 40) first_near fu (omega arith) in
        let q : ℤ = mid +ℤ e *ℤ room in
        let q_near : unsigned_abs q ≤ 2 ^ 40 = two_near mid (e *ℤ room) (2 ^ 38) (2 ^ 36) (2 ^ 40) mid_near er (omega arith) in
        let form : Form = two_of z e p e i in
        let is = sum_first z p e i e less in
        let made_i : combined (one_of z e p) e (number v) ≡ Some (one_of mid e p) =
        combined-made (one_of z e p) (number v) e (one_limited z e p (omega (arith, z_near)) e_few) (number_limited v (omega (arith, v_near))) (one_limited mid e p (omega (arith, mid_near)) e_few) in
        let start_is : plus_multiple (number mid) e (one_of low (pos (suc k)) s) ≡ one_of first f s =
        (λ j. record { constant = first; terms = in_front (multiple s (times j)) [] }) ∙ (λ j. record { constant = first; terms = if some_f j then [] else multiple s f ∷ [] }) in
        let made_f : combined (number mid) e (one_of low (pos (suc k)) s) ≡ Some (one_of first f s) =
        combined-made (number mid) (one_of low (pos (suc k)) s) e (number_limited mid (omega (arith, mid_near))) start_limited
        (ap is_within_limits start_is ∙ one_limited first f s (omega (arith, first_near)) f_few) ∙ ap (λ (g : Form). Some g) start_is in
        let made_a = numbers_made first f u (omega (arith, first_near)) (omega (arith, u_near)) r_near in
        let found_s = least_is scope s first f r some_f (Bound x) there_s (number u) one_s made_a p before in
        let count_s = replacements_are scope s first f r some_f (Bound x) there_s (number u) one_s made_a p before in
        let made_g = numbers_made mid e room (omega (arith, mid_near)) (omega (arith, room_near)) q_near in
        let start : Form = one_of low (pos (suc k)) s in
        let both = least_both scope p e some_e let_here there (one_of mid e p) (number mid) (one_factor mid e p) (one_free mid e p) (one_gone mid e p) start (one_of first f s) made_f (Some
        r) found_s 1
        count_s (number room) (number q) made_g (Some q) (least_number scope p q) 0 (no_replacements scope p q) refl i less in
        let counted = count_both scope p e some_e let_here there (one_of mid e p) (number mid) (one_factor mid e p) (one_free mid e p) (one_gone mid e p) start (one_of first f s) made_f
        (Some r) found_s
        1 count_s (number room) (number q) made_g (Some q) (least_number scope p q) 0 (no_replacements scope p q) refl i less in
        let o : Option ℤ = pick (any_may_be let_here e) (Some r) (Some q) in
        record {
          one = r;
          two = q;
          times_made = suc (suc 1 + suc 0);
          finds = ap (least scope (length scope)) is
              ∙ least_top scope i e some_e (Bound y) there_i form (one_of z e p) (two_factor z e p e i less) (two_free z e p e i less) (two_gone z e p e i less) (number v) (one_of mid e p) made_i o
              both (suc 1 + suc 0) counted one_i (length scope) inside_i;
          counts = ap (replacements scope (length scope)) is
              ∙ count_top scope i e some_e (Bound y) there_i form (one_of z e p) (two_factor z e p e i less) (two_free z e p e i less) (two_gone z e p e i less) (number v) (one_of mid e p) made_i o
              both (suc 1 + suc 0) counted one_i (length scope) inside_i;
          few_times = omega arith;
          one_is = moved z (e *ℤ v) (e *ℤ low) (f *ℤ u);
          two_is = turned z (e *ℤ v) (e *ℤ room);
        }
      where
        moved : (z v l w : ℤ) → ((z +ℤ v) +ℤ l) +ℤ w ≡ ((z +ℤ l) +ℤ w) +ℤ v
        moved z v l w = omega (arith, ints)

        turned : (z v l : ℤ) → (z +ℤ v) +ℤ l ≡ (z +ℤ l) +ℤ v
        turned z v l = omega (arith, ints)

    -- the inner loop stands before the let
    loop_first : i < p → Comes
    loop_first less =
        let first : ℤ = z +ℤ e *ℤ low in
        let first_near : unsigned_abs first ≤ 2 ^ 38 = two_near z (e *ℤ low) (2 ^ 37) (2 ^ 36) (2 ^ 38) z_near el (omega arith) in
        let second : ℤ = z +ℤ e *ℤ room in
        let second_near : unsigned_abs second ≤ 2 ^ 38 = two_near z (e *ℤ room) (2 ^ 37) (2 ^ 36) (2 ^ 38) z_near er (omega arith) in
        let q : ℤ = second +ℤ e *ℤ v in
        let q_near : unsigned_abs q ≤ 2 ^ 40 = two_near second (e *ℤ v) (2 ^ 38) (2 ^ 36) (2 ^ 40) second_near ev (omega arith) in
        let r : ℤ = (first +ℤ f *ℤ u) +ℤ e *ℤ v in
        let form : Form = two_of z e i e p in
        let is = sum_second z p e i e less in
        let start : Form = one_of low (pos (suc k)) s in
        let sum_is : plus_multiple (one_of z e i) e start ≡ sum_of first i e s f =
        (λ j. record { constant = first; terms = plus_term (multiple i e ∷ []) (multiple s (times j)) })
        ∙ (λ j. record {
          constant = first;
          terms = if nat_lt i s then multiple i e ∷ (if some_f j then [] else multiple s f ∷ [])
              else (if differ j then in_front (record { symbol = s; factor = e +ℤ f }) [] else (if some_f j then multiple i e ∷ [] else multiple s f ∷ multiple i e ∷ []));
        }) in
        let made_f : combined (one_of z e i) e start ≡ Some (sum_of first i e s f) =
        combined-made (one_of z e i) start e (one_limited z e i (omega (arith, z_near)) e_few) start_limited
        (ap is_within_limits sum_is ∙ sum_limited first i e s f (omega (arith, first_near)) e_few f_few) ∙ ap (λ (g : Form). Some g) sum_is in
        let found_f = both_found scope (Bound y) (Bound x) i s differ there_i there_s first e f v u some_e some_f one_i one_s first_near e_few f_few v_near u_near (omega (arith, ev)) (omega
        (arith, fu))
        p less before in
        let made_g : combined (one_of z e i) e (number room) ≡ Some (one_of second e i) =
        combined-made (one_of z e i) (number room) e (one_limited z e i (omega (arith, z_near)) e_few) (number_limited room (omega (arith, room_near)))
        (one_limited second e i (omega (arith, second_near)) e_few) in
        let made_b = numbers_made second e v (omega (arith, second_near)) (omega (arith, v_near)) q_near in
        let found_g = least_is scope i second e q some_e (Bound y) there_i (number v) one_i made_b p less in
        let count_g = replacements_are scope i second e q some_e (Bound y) there_i (number v) one_i made_b p less in
        record {
          one = r;
          two = q;
          times_made = suc 2 + suc 1;
          finds = ap (least scope (length scope)) is
              ∙ least_both scope p e some_e let_here there form (one_of z e i) (two_factor z e i e p less) (two_free z e i e p less) (two_gone z e i e p less) start (sum_of first i e s f) made_f
              (Some r) found_f.0 2 found_f.1 (number room) (one_of second e i) made_g (Some q) found_g 1 count_g refl (length scope) inside_p;
          counts = ap (replacements scope (length scope)) is
              ∙ count_both scope p e some_e let_here there form (one_of z e i) (two_factor z e i e p less) (two_free z e i e p less) (two_gone z e i e p less) start (sum_of first i e s f) made_f
              (Some r) found_f.0 2 found_f.1 (number room) (one_of second e i) made_g (Some q) found_g 1 count_g refl (length scope) inside_p;
          few_times = omega arith;
          one_is = refl;
          two_is = refl;
        }

    comes : Comes
    comes = of (nat_lt p i) refl
      where
        of : (b : Bool) → nat_lt p i ≡ b → Comes
        of true q = let_first (grind (arith, nat_tests, q))
        of false q = loop_first (grind (arith, nat_tests, q, apart))

  abbrev at_block : Form
  at_block = pair (pos 0) p (pos 1) i

  pub shifted_under : (high : ℤ) → unsigned_abs high ≤ 2 ^ 37 → (room +ℤ pos k) ≤ℤ high → at_most scope at_block (number high) ≡ true
  shifted_under high high_near le =
      let z : ℤ = pos 0 +ℤ negsuc 0 *ℤ high in
      let z_near : unsigned_abs z ≤ 2 ^ 37 = turned high high_near in
      let once : pos 1 *ℤ pos (suc k) ≡ pos (suc k) = omega (arith, ints) in
      let c = comes (pos 1) (pos (suc k)) z (pos t) (pos k) refl refl once x_last y_last z_near (omega arith) block_few (omega (arith, t_few)) (omega (arith, few)) blocks_near (one_time k few)
      (same_far low near) (same_far room room_near) in
      let limited = sum_limited z p (pos 1) i (pos 1) (omega (arith, z_near)) (omega arith) (omega arith) in
      let made : combined at_block (negsuc 0) (number high) ≡ Some (sum_of z p (pos 1) i (pos 1)) =
      combined-made at_block (number high) (negsuc 0) (sum_limited (pos 0) p (pos 1) i (pos 1) (omega arith) (omega arith) (omega arith)) (number_limited high (omega (arith, high_near))) limited in
      shown_by scope at_block (number high) (sum_of z p (pos 1) i (pos 1)) c.times_made (pick false (Some c.one) (Some c.two)) made limited c.counts c.few_times c.finds
      (still_second (Some c.one) c.two (under_it c.two high room k c.two_is le))
    where
      turned : (z : ℤ) → unsigned_abs z ≤ 2 ^ 37 → unsigned_abs (pos 0 +ℤ negsuc 0 *ℤ z) ≤ 2 ^ 37
      turned z h = omega (arith, ints, h)

      one_time : (n : ℕ) → suc n ≤ 1024 → unsigned_abs (pos 1 *ℤ pos n) ≤ 2 ^ 36
      one_time n h = omega (arith, ints, h)

      same_far : (z : ℤ) → unsigned_abs z ≤ 2 ^ 36 → unsigned_abs (pos 1 *ℤ z) ≤ 2 ^ 36
      same_far z h = omega (arith, ints, h)

      under_it : (c high room : ℤ) (n : ℕ) → c ≡ ((pos 0 +ℤ negsuc 0 *ℤ high) +ℤ pos 1 *ℤ room) +ℤ pos 1 *ℤ pos n → (room +ℤ pos n) ≤ℤ high → c ≤ℤ pos 0
      under_it c high room n e h = omega (arith, ints, e, h)

  pub shifted_over : (first : ℤ) → unsigned_abs first ≤ 2 ^ 37 → first ≤ℤ low → first ≤ℤ room → at_most scope (number first) at_block ≡ true
  shifted_over first first_near le le_room =
      let z : ℤ = first +ℤ negsuc 0 *ℤ pos 0 in
      let z_near : unsigned_abs z ≤ 2 ^ 37 = omega (arith, ints, first_near) in
      let neg : negsuc 0 *ℤ pos (suc k) ≡ negsuc k = omega (arith, ints) in
      let neg_few : unsigned_abs (negsuc k) ≤ 2 ^ 20 = omega (arith, few) in
      let c = comes (negsuc 0) (negsuc k) z (pos 0) (pos 0) refl refl neg x_low y_low z_near (omega arith) neg_few (omega arith) (omega arith) (no_far (negsuc k) (2 ^ 36)) (omega arith)
      (other_far low near) (other_far room room_near) in
      let limited = sum_limited z p (negsuc 0) i (negsuc 0) (omega (arith, z_near)) (omega arith) (omega arith) in
      let made = sum_made first (negsuc 0) (pos 0) (pos 1) (pos 1) (negsuc 0) (negsuc 0) refl refl refl refl (omega (arith, first_near)) (omega arith) (omega (arith, z_near)) (omega arith)
      (omega arith)
      (omega arith) (omega arith) p i apart in
      shown_by scope (number first) at_block (sum_of z p (negsuc 0) i (negsuc 0)) c.times_made (pick true (Some c.one) (Some c.two)) made limited c.counts c.few_times c.finds
      (still_both c.one c.two (one_under c.one first low (negsuc k *ℤ pos 0) (no_time (negsuc k)) c.one_is le) (two_under c.two first room c.two_is le_room))
    where
      other_far : (z : ℤ) → unsigned_abs z ≤ 2 ^ 36 → unsigned_abs (negsuc 0 *ℤ z) ≤ 2 ^ 36
      other_far z h = omega (arith, ints, h)

      one_under : (c first low w : ℤ) → w ≡ pos 0 → c ≡ (((first +ℤ negsuc 0 *ℤ pos 0) +ℤ negsuc 0 *ℤ low) +ℤ w) +ℤ negsuc 0 *ℤ pos 0 → first ≤ℤ low → c ≤ℤ pos 0
      one_under c first low w q e h = omega (arith, ints, q, e, h)

      two_under : (c first room : ℤ) → c ≡ ((first +ℤ negsuc 0 *ℤ pos 0) +ℤ negsuc 0 *ℤ room) +ℤ negsuc 0 *ℤ pos 0 → first ≤ℤ room → c ≤ℤ pos 0
      two_under c first room e h = omega (arith, ints, e, h)

  pub shifted_inside : negsuc 2147483647 ≤ℤ low → low ≤ℤ pos 2147483647 → negsuc 2147483647 ≤ℤ room → (room +ℤ pos k) ≤ℤ pos 2147483647 → is_index_span scope (exactly at_block) ≡ true
  shifted_inside from to from_room ends =
      by_ends scope at_block (shifted_over (negsuc 2147483647) (omega (arith, ints)) from from_room) (shifted_under (pos 2147483647) (omega (arith, ints)) ends)

  -- it is at least the first number of the block
  pub shifted_from : at_most scope (alone p) at_block ≡ true
  shifted_from =
      let limited : is_within_limits (one_of (pos 0) (negsuc 0) i) ≡ true = one_limited (pos 0) (negsuc 0) i (omega arith) (omega arith) in
      let is = difference (nat_lt p i) refl in
      let made : combined (alone p) (negsuc 0) at_block ≡ Some (one_of (pos 0) (negsuc 0) i) =
      combined-made (alone p) at_block (negsuc 0) (one_limited (pos 0) (pos 1) p (omega arith) (omega arith)) (sum_limited (pos 0) p (pos 1) i (pos 1) (omega arith) (omega arith) (omega arith))
      (ap is_within_limits is ∙ limited) ∙ ap (λ (g : Form). Some g) is in
      found_below scope (alone p) at_block (one_of (pos 0) (negsuc 0) i) (pos 0) made
      (found scope i (pos 0) (negsuc 0) (pos 0) refl (Bound y) there_i (number (pos 0)) y_low refl inside_i limited) (still (pos 0) (omega (arith, ints)))
    where
      difference : (b : Bool) → nat_lt p i ≡ b → plus_multiple (alone p) (negsuc 0) at_block ≡ one_of (pos 0) (negsuc 0) i
      difference true q =
          let gone = term_gone (multiple p (pos 1)) [] in
          ap (plus_multiple (alone p) (negsuc 0)) (sum_first (pos 0) p (pos 1) i (pos 1) (grind (arith, nat_tests, q)))
          ∙ (λ j. record { constant = pos 0; terms = plus_term (gone j) (multiple i (negsuc 0)) })
      difference false q =
          let less : i < p = grind (arith, nat_tests, q, apart) in
          let here : nat_lt i p ≡ true = grind (arith, nat_tests, less) in
          let gone = term_gone (multiple p (pos 1)) [] in
          ap (plus_multiple (alone p) (negsuc 0)) (sum_second (pos 0) p (pos 1) i (pos 1) less)
          ∙ (λ j. record {
            constant = pos 0;
            terms = plus_term (if q j then multiple p (pos 1) ∷ plus_term [] (multiple i (negsuc 0)) else
                (if apart j then in_front (record { symbol = i; factor = pos 1 +ℤ negsuc 0 }) [] else multiple i (negsuc 0) ∷ multiple p (pos 1) ∷ [])) (multiple p (negsuc 0));
          })
          ∙ (λ j. record {
            constant = pos 0;
            terms = if here j then multiple i (negsuc 0) ∷ plus_term (multiple p (pos 1) ∷ []) (multiple p (negsuc 0))
                else (if i == p then in_front (record { symbol = p; factor = negsuc 0 +ℤ negsuc 0 }) (multiple p (pos 1) ∷ []) else multiple p (negsuc 0) ∷ multiple i (negsuc 0) ∷ multiple p (pos 1)
                ∷ []);
          })
          ∙ (λ j. record { constant = pos 0; terms = multiple i (negsuc 0) ∷ gone j })

  -- and at most its last one
  pub shifted_to : at_most scope at_block (raised (alone p) (pos k)) ≡ true
  shifted_to =
      let z : ℤ = pos 0 +ℤ negsuc 0 *ℤ (pos 0 +ℤ pos k) in
      let z_near : unsigned_abs z ≤ 1024 = omega (arith, ints, few) in
      let r : ℤ = z +ℤ pos 1 *ℤ pos k in
      let r_is : r ≡ pos 0 = omega (arith, ints) in
      let limited : is_within_limits (one_of z (pos 1) i) ≡ true = one_limited z (pos 1) i (omega (arith, z_near)) (omega arith) in
      let is = difference (nat_lt p i) refl in
      let made : combined at_block (negsuc 0) (raised (alone p) (pos k)) ≡ Some (one_of z (pos 1) i) =
      combined-made at_block (raised (alone p) (pos k)) (negsuc 0) (sum_limited (pos 0) p (pos 1) i (pos 1) (omega arith) (omega arith) (omega arith))
      (one_limited (pos 0 +ℤ pos k) (pos 1) p (omega (arith, few)) (omega arith)) (ap is_within_limits is ∙ limited) ∙ ap (λ (g : Form). Some g) is in
      let sum = numbers_made z (pos 1) (pos k) (omega (arith, z_near)) (omega (arith, few)) (subst (λ (w : ℤ). unsigned_abs w ≤ 2 ^ 40) (sym r_is) (omega arith)) in
      found_below scope at_block (raised (alone p) (pos k)) (one_of z (pos 1) i) r made (found scope i z (pos 1) r refl (Bound y) there_i (number (pos k)) y_last sum inside_i limited)
      (still r (subst (λ (w : ℤ). w ≤ℤ pos 0) (sym r_is) (omega (arith, ints))))
    where
      difference : (b : Bool) → nat_lt p i ≡ b → plus_multiple at_block (negsuc 0) (raised (alone p) (pos k)) ≡ one_of (pos 0 +ℤ negsuc 0 *ℤ (pos 0 +ℤ pos k)) (pos 1) i
      difference true q =
          let gone = term_gone (multiple p (pos 1)) (multiple i (pos 1) ∷ []) in
          let less : p < i = grind (arith, nat_tests, q) in
          (λ j. plus_multiple (sum_first (pos 0) p (pos 1) i (pos 1) less j) (negsuc 0) (raised (alone p) (pos k)))
          ∙ (λ j. record { constant = pos 0 +ℤ negsuc 0 *ℤ (pos 0 +ℤ pos k); terms = gone j })
      difference false q =
          let less : i < p = grind (arith, nat_tests, q, apart) in
          let here : nat_lt i p ≡ true = grind (arith, nat_tests, less) in
          let gone = term_gone (multiple p (pos 1)) [] in
          (λ j. plus_multiple (sum_second (pos 0) p (pos 1) i (pos 1) less j) (negsuc 0) (raised (alone p) (pos k)))
          ∙ (λ j. record {
            constant = pos 0 +ℤ negsuc 0 *ℤ (pos 0 +ℤ pos k);
            terms = if here j then multiple i (pos 1) ∷ plus_term (multiple p (pos 1) ∷ []) (multiple p (negsuc 0))
                else (if i == p then in_front (record { symbol = p; factor = pos 1 +ℤ negsuc 0 }) (multiple p (pos 1) ∷ []) else multiple p (negsuc 0) ∷ multiple i (pos 1) ∷ multiple p (pos 1) ∷ []);
          })
          ∙ (λ j. record { constant = pos 0 +ℤ negsuc 0 *ℤ (pos 0 +ℤ pos k); terms = multiple i (pos 1) ∷ gone j })
