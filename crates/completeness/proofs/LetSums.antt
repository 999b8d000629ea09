-- The search where a form is a let's symbol, the smaller of two forms: upwards the smaller of what both find counts, downwards the larger.
use Rattle.std.proofs.Common.{◌≡◌, ℕ, suc, ◌+◌, ◌<◌, ◌≤◌, ◌^◌, true, false, List, [], ◌∷◌, length, Option, Some, None, refl, sym, ap, ◌∙◌, subst, arith}
use Rattle.std.specs.Prelude.{ℤ, pos, negsuc, ◌+ℤ◌, ◌*ℤ◌, ◌≤ℤ◌, slice_get}
use Rattle.std.specs.Int.{int_min, int_max}
use Rattle.std.specs.Int.RustNames.{unsigned_abs}
use Rattle.std.proofs.lemmas.Int.{ints, clamps}
use Rattle.lin.specs.Forms.{Form, number, in_front, plus_multiple, is_within_limits, combined}
use Rattle.lin.specs.Search.{least, replacements, is_at_most_zero, at_most, pick}
use Rattle.lin.specs.declared.scope.Binding.{Binding}
use Rattle.lin.specs.declared.scope.Binding.TheVariants.{LetMin}
use Rattle.lin.proofs.Limits.{combined-made}
use Rattle.completeness.proofs.GridScope.{number_limited}
use Rattle.completeness.proofs.SelfBounds.{least_number, no_replacements, still}
use Rattle.completeness.proofs.Searched.{one_of}
use Rattle.completeness.proofs.GuardSums.{smaller_right}
use Rattle.completeness.proofs.BlockSums.{multiple, one_limited}
use Rattle.completeness.proofs.TopSums.{shown_by, least_both, count_both, one_factor, one_free, one_gone}

-- upwards what the second finds is enough
pub still_second : (o : Option ℤ) (s : ℤ) → s ≤ℤ pos 0 → is_at_most_zero (pick false o (Some s)) ≡ true
still_second None s h = still s h
still_second (Some r) s h = still (int_min r s) (smaller_right r s h)

-- downwards both have to be
pub still_both : (r s : ℤ) → r ≤ℤ pos 0 → s ≤ℤ pos 0 → is_at_most_zero (pick true (Some r) (Some s)) ≡ true
still_both r s h g = still (int_max r s) (larger_both r s h g)
  where
    larger_both : (r s : ℤ) → r ≤ℤ pos 0 → s ≤ℤ pos 0 → int_max r s ≤ℤ pos 0
    larger_both r s h g = omega (arith, ints, clamps, h, g)

-- ---- a let that is the smaller one of a form and a number

module _ (scope : List Binding) (p : ℕ) (inside : p < length scope) (f : Form) (last : ℤ) (last_near : unsigned_abs last ≤ 2 ^ 36) (there : slice_get scope p ≡ Some (LetMin (f ∷ number last
    ∷ []))) where
  -- it is at most what the number is at most, whatever the form is
  pub let_under : (high : ℤ) → unsigned_abs high ≤ 2 ^ 37 → last ≤ℤ high → (first : Form) → combined (number (pos 0 +ℤ negsuc 0 *ℤ high)) (pos 1) f ≡ Some first → (m : ℕ) →
      replacements scope p first ≡ m → m ≤ 4000 → at_most scope (one_of (pos 0) (pos 1) p) (number high) ≡ true
  let_under high high_near le first made_f m count few =
      let z : ℤ = pos 0 +ℤ negsuc 0 *ℤ high in
      let z_near : unsigned_abs z ≤ 2 ^ 38 = less_near high high_near in
      let limited_sum = one_limited z (pos 1) p (omega (arith, z_near)) (omega arith) in
      let made : combined (one_of (pos 0) (pos 1) p) (negsuc 0) (number high) ≡ Some (one_of z (pos 1) p) =
      combined-made (one_of (pos 0) (pos 1) p) (number high) (negsuc 0) (one_limited (pos 0) (pos 1) p (omega arith) (omega arith)) (number_limited high (omega (arith, high_near))) limited_sum in
      let s : ℤ = z +ℤ pos 1 *ℤ last in
      let s_near : unsigned_abs s ≤ 2 ^ 40 = sum_near z last z_near last_near in
      let made_g : combined (number z) (pos 1) (number last) ≡ Some (number s) =
      combined-made (number z) (number last) (pos 1) (number_limited z (omega (arith, z_near))) (number_limited last (omega (arith, last_near))) (number_limited s s_near) in
      let bound : Binding = LetMin (f ∷ number last ∷ []) in
      let found = least_both scope p (pos 1) refl bound there (one_of z (pos 1) p) (number z) (one_factor z (pos 1) p) (one_free z (pos 1) p) (one_gone z (pos 1) p) f first made_f (least
      scope p first)
      refl m count (number last) (number s) made_g (Some s) (least_number scope p s) 0 (no_replacements scope p s) refl (length scope) inside in
      let counted = count_both scope p (pos 1) refl bound there (one_of z (pos 1) p) (number z) (one_factor z (pos 1) p) (one_free z (pos 1) p) (one_gone z (pos 1) p) f first made_f (least
      scope p first)
      refl m count (number last) (number s) made_g (Some s) (least_number scope p s) 0 (no_replacements scope p s) refl (length scope) inside in
      shown_by scope (one_of (pos 0) (pos 1) p) (number high) (one_of z (pos 1) p) (suc m + suc 0) (pick false (least scope p first) (Some s)) made limited_sum counted (omega (arith, few)) found
      (still_second (least scope p first) s (under_it last high le))
    where
      less_near : (q : ℤ) → unsigned_abs q ≤ 2 ^ 37 → unsigned_abs (pos 0 +ℤ negsuc 0 *ℤ q) ≤ 2 ^ 38
      less_near q h = omega (arith, ints, h)

      sum_near : (a b : ℤ) → unsigned_abs a ≤ 2 ^ 38 → unsigned_abs b ≤ 2 ^ 36 → unsigned_abs (a +ℤ pos 1 *ℤ b) ≤ 2 ^ 40
      sum_near a b h g = omega (arith, ints, h, g)

      under_it : (a b : ℤ) → a ≤ℤ b → ((pos 0 +ℤ negsuc 0 *ℤ b) +ℤ pos 1 *ℤ a) ≤ℤ pos 0
      under_it a b h = omega (arith, ints, h)

  -- it is at least a number that both are at least
  pub let_over : (low : ℤ) → unsigned_abs low ≤ 2 ^ 37 → low ≤ℤ last → (first : Form) (r : ℤ) → combined (number low) (negsuc 0) f ≡ Some first → least scope p first ≡ Some r → r ≤ℤ pos 0 → (m : ℕ) →
      replacements scope p first ≡ m → m ≤ 4000 → at_most scope (number low) (one_of (pos 0) (pos 1) p) ≡ true
  let_over low low_near le first r made_f least_f r_under m count few =
      let z : ℤ = low +ℤ negsuc 0 *ℤ pos 0 in
      let z_is : z ≡ low = omega (arith, ints) in
      let z_near : unsigned_abs z ≤ 2 ^ 37 = subst (λ (v : ℤ). unsigned_abs v ≤ 2 ^ 37) (sym z_is) low_near in
      let once : negsuc 0 *ℤ pos 1 ≡ negsuc 0 = omega (arith, ints) in
      let is : plus_multiple (number low) (negsuc 0) (one_of (pos 0) (pos 1) p) ≡ one_of z (negsuc 0) p = (λ j. record { constant = z; terms = in_front (multiple p (once j)) [] }) in
      let limited_sum = one_limited z (negsuc 0) p (omega (arith, z_near)) (omega arith) in
      let made : combined (number low) (negsuc 0) (one_of (pos 0) (pos 1) p) ≡ Some (one_of z (negsuc 0) p) =
      combined-made (number low) (one_of (pos 0) (pos 1) p) (negsuc 0) (number_limited low (omega (arith, low_near))) (one_limited (pos 0) (pos 1) p (omega arith) (omega arith))
      (ap is_within_limits is ∙ limited_sum) ∙ ap (λ (h : Form). Some h) is in
      let s : ℤ = z +ℤ negsuc 0 *ℤ last in
      let s_near : unsigned_abs s ≤ 2 ^ 40 = sum_near z last z_near last_near in
      let made_g : combined (number z) (negsuc 0) (number last) ≡ Some (number s) =
      combined-made (number z) (number last) (negsuc 0) (number_limited z (omega (arith, z_near))) (number_limited last (omega (arith, last_near))) (number_limited s s_near) in
      let made_here : combined (number z) (negsuc 0) f ≡ Some first = ap (λ (v : ℤ). combined (number v) (negsuc 0) f) z_is ∙ made_f in
      let bound : Binding = LetMin (f ∷ number last ∷ []) in
      let found = least_both scope p (negsuc 0) refl bound there (one_of z (negsuc 0) p) (number z) (one_factor z (negsuc 0) p) (one_free z (negsuc 0) p) (one_gone z (negsuc 0) p) f first made_here
      (Some r) least_f m count (number last) (number s) made_g (Some s) (least_number scope p s) 0 (no_replacements scope p s) refl (length scope) inside in
      let counted = count_both scope p (negsuc 0) refl bound there (one_of z (negsuc 0) p) (number z) (one_factor z (negsuc 0) p) (one_free z (negsuc 0) p) (one_gone z (negsuc 0) p) f first made_here
      (Some r) least_f m count (number last) (number s) made_g (Some s) (least_number scope p s) 0 (no_replacements scope p s) refl (length scope) inside in
      shown_by scope (number low) (one_of (pos 0) (pos 1) p) (one_of z (negsuc 0) p) (suc m + suc 0) (pick true (Some r) (Some s)) made limited_sum counted (omega (arith, few)) found
      (still_both r s r_under (over_it z low last z_is le))
    where
      sum_near : (a b : ℤ) → unsigned_abs a ≤ 2 ^ 37 → unsigned_abs b ≤ 2 ^ 36 → unsigned_abs (a +ℤ negsuc 0 *ℤ b) ≤ 2 ^ 40
      sum_near a b h g = omega (arith, ints, h, g)

      over_it : (a b d : ℤ) → a ≡ b → b ≤ℤ d → (a +ℤ negsuc 0 *ℤ d) ≤ℤ pos 0
      over_it a b d e h = omega (arith, ints, e, h)
