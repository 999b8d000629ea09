-- The search finds that a loop's symbol lies between the ends of its span, where these are numbers.
use Rattle.std.proofs.Common.{◌≡◌, ℕ, zero, suc, ◌<◌, ◌≤◌, ◌^◌, Bool, true, false, ◌&&◌, not, List, [], ◌∷◌, length, map, Option, Some, None, refl, ap, ◌∙◌, subst, arith}
use Rattle.std.specs.Prelude.{ℤ, pos, negsuc, ◌+ℤ◌, ◌*ℤ◌, ◌≤ℤ◌, ◌==◌, nat_le, if◌then◌else◌, slice_get, option_and_then}
use Rattle.std.specs.Option.{option_map_or}
use Rattle.std.specs.Int.RustNames.{unsigned_abs}
use Rattle.std.proofs.lemmas.Bool.{le-leb}
use Rattle.std.proofs.lemmas.Bool.Decides.{nat_tests}
use Rattle.std.proofs.lemmas.Int.{ints}
use Rattle.lin.specs.Forms.{Form, number, is_zero, factor_of, is_within_limits, without, plus_multiple, combined}
use Rattle.lin.specs.Search.{candidates, any_may_be, that_counts, replaced, result_at, total, total_at, least, replacements, sup, at_most}
use Rattle.lin.specs.declared.scope.Binding.{Binding}
use Rattle.lin.specs.declared.scope.Binding.TheVariants.{Loop}
use Rattle.lin.specs.declared.span.Span1.{Span1}
use Rattle.lin.proofs.Limits.{combined-made}
use Rattle.soundness.proofs.Refines.{eq_refl, eq_true}
use Rattle.sched.specs.Standing.{alone}
use Rattle.completeness.proofs.GridScope.{number_limited}
use Rattle.completeness.proofs.SelfBounds.{least_number, no_replacements, found_below, still}

-- a number and so many times a symbol
abbrev pub one_of : ℤ → ℤ → ℕ → Form
one_of z c i = record { constant = z; terms = record { symbol = i; factor = c } ∷ [] }

-- at a symbol of which this is the one form that may stand in its place, which makes of the form this number
module _ (scope : List Binding) (i : ℕ) (z c r : ℤ) (some : is_zero c ≡ false) (b : Binding) (there : slice_get scope i ≡ Some b) (m : Form) (one : candidates b c ≡ m ∷ [])
    (made : combined (number z) c m ≡ Some (number r)) where
  -- the symbol, whose factor is c, and no other
  here_factor : factor_of (record { symbol = i; factor = c } ∷ []) i ≡ c
  here_factor = (let sum : c +ℤ pos 0 ≡ c = omega (arith, ints) in ap (λ (v : Bool). (if v then c else pos 0) +ℤ pos 0) (eq_refl i) ∙ sum)

  other_factor : (n : ℕ) → (i == n) ≡ false → factor_of (record { symbol = i; factor = c } ∷ []) n ≡ pos 0
  other_factor n e = ap (λ (v : Bool). (if v then c else pos 0) +ℤ pos 0) e

  gone : without (one_of z c i) i ≡ number z
  gone = ap (λ (v : Bool). record { constant = z; terms = if not v then record { symbol = i; factor = c } ∷ [] else [] }) (eq_refl i)

  replaced_is : replaced (one_of z c i) i c m ≡ Some (number r)
  replaced_is = ap (λ (f : Form). combined f c m) gone ∙ made

  abbrev branch : Form → Option ℤ
  branch other = option_and_then (λ next. least scope i next) (replaced (one_of z c i) i c other)

  abbrev cost : Form → ℕ
  cost other = suc (option_map_or (λ next. replacements scope i next) (replaced (one_of z c i) i c other) 0)

  branch_is : branch m ≡ Some r
  branch_is = ap (λ (o : Option Form). option_and_then (λ next. least scope i next) o) replaced_is ∙ least_number scope i r

  cost_is : cost m ≡ 1
  cost_is = ap (λ (o : Option Form). suc (option_map_or (λ next. replacements scope i next) o 0)) replaced_is ∙ ap suc (no_replacements scope i r)

  result_is : result_at (Some b) c branch ≡ Some r
  result_is = ap (λ (fs : List Form). that_counts (any_may_be b c) (map branch fs)) one ∙ branch_is

  total_is : total_at (Some b) c cost ≡ 1
  total_is = ap (λ (fs : List Form). total cost fs) one ∙ (let count = cost_is in omega (arith, count))

  pub least_is : (n : ℕ) → i < n → least scope n (one_of z c i) ≡ Some r
  least_is zero less = absurd (omega (arith, less))
  least_is (suc n) less = of (i == n) refl (λ low. least_is n low)
    where
      of : (v : Bool) → (i == n) ≡ v → (i < n → least scope n (one_of z c i) ≡ Some r) → least scope (suc n) (one_of z c i) ≡ Some r
      of true e rest =
          let same : i ≡ n = eq_true i n e in
          subst (λ (k : ℕ). least scope (suc k) (one_of z c i) ≡ Some r) same
          (ap (λ (v : ℤ). if is_zero v then least scope i (one_of z c i) else result_at (slice_get scope i) v
          (λ other. option_and_then (λ next. least scope i next) (replaced (one_of z c i) i v other))) here_factor
          ∙ ap (λ (v : Bool). if v then least scope i (one_of z c i) else result_at (slice_get scope i) c branch) some
          ∙ ap (λ (o : Option Binding). result_at o c branch) there ∙ result_is)
      of false e rest =
          let low : i < n = below (i == n) e in
          ap (λ (v : ℤ). if is_zero v then least scope n (one_of z c i) else result_at (slice_get scope n) v
          (λ other. option_and_then (λ next. least scope n next) (replaced (one_of z c i) n v other))) (other_factor n e) ∙ rest low
        where
          below : (v : Bool) → (i == n) ≡ false → i < n
          below v e = grind (arith, nat_tests, less)

  pub replacements_are : (n : ℕ) → i < n → replacements scope n (one_of z c i) ≡ 1
  replacements_are zero less = absurd (omega (arith, less))
  replacements_are (suc n) less = of (i == n) refl (λ low. replacements_are n low)
    where
      of : (v : Bool) → (i == n) ≡ v → (i < n → replacements scope n (one_of z c i) ≡ 1) → replacements scope (suc n) (one_of z c i) ≡ 1
      of true e rest =
          let same : i ≡ n = eq_true i n e in
          subst (λ (k : ℕ). replacements scope (suc k) (one_of z c i) ≡ 1) same
          (ap (λ (v : ℤ). if is_zero v then replacements scope i (one_of z c i) else total_at (slice_get scope i) v
          (λ other. suc (option_map_or (λ next. replacements scope i next) (replaced (one_of z c i) i v other) 0))) here_factor
          ∙ ap (λ (v : Bool). if v then replacements scope i (one_of z c i) else total_at (slice_get scope i) c cost) some
          ∙ ap (λ (o : Option Binding). total_at o c cost) there ∙ total_is)
      of false e rest =
          let low : i < n = below (i == n) e in
          ap (λ (v : ℤ). if is_zero v then replacements scope n (one_of z c i) else total_at (slice_get scope n) v
          (λ other. suc (option_map_or (λ next. replacements scope n next) (replaced (one_of z c i) n v other) 0))) (other_factor n e) ∙ rest low
        where
          below : (v : Bool) → (i == n) ≡ false → i < n
          below v e = grind (arith, nat_tests, less)

  pub found : i < length scope → is_within_limits (one_of z c i) ≡ true → sup scope (one_of z c i) ≡ Some r
  found less limited =
      ap (λ (v : Bool). if v && nat_le (replacements scope (length scope) (one_of z c i)) 4096 then least scope (length scope) (one_of z c i) else None) limited
      ∙ ap (λ (n : ℕ). if nat_le n 4096 then least scope (length scope) (one_of z c i) else None) (replacements_are (length scope) less)
      ∙ least_is (length scope) less

-- ---- a loop's symbol

pub up_limited : (z : ℤ) (i : ℕ) → unsigned_abs z ≤ 2 ^ 40 → is_within_limits (one_of z (pos 1) i) ≡ true
up_limited z i h = le-leb (unsigned_abs z) (2 ^ 40) h

down_limited : (z : ℤ) (i : ℕ) → unsigned_abs z ≤ 2 ^ 40 → is_within_limits (one_of z (negsuc 0) i) ≡ true
down_limited z i h = le-leb (unsigned_abs z) (2 ^ 40) h

pub numbers_made : (y k z : ℤ) → unsigned_abs y ≤ 2 ^ 40 → unsigned_abs z ≤ 2 ^ 40 → unsigned_abs (y +ℤ k *ℤ z) ≤ 2 ^ 40 → combined (number y) k (number z) ≡ Some (number (y +ℤ k *ℤ z))
numbers_made y k z hy hz hs = combined-made (number y) (number z) k (number_limited y hy) (number_limited z hz) (number_limited (y +ℤ k *ℤ z) hs)

module _ (scope : List Binding) (i : ℕ) (x : Span1) (less : i < length scope) (there : slice_get scope i ≡ Some (Loop x)) where
  -- or any number below that
  pub symbol_over : (z low : ℤ) → x.lower ≡ number low ∷ [] → z ≤ℤ low → unsigned_abs z ≤ 2 ^ 38 → unsigned_abs low ≤ 2 ^ 38 → at_most scope (number z) (alone i) ≡ true
  symbol_over z low one le near far =
      let is : z +ℤ negsuc 0 *ℤ pos 0 ≡ z = omega (arith, ints) in
      let form : plus_multiple (number z) (negsuc 0) (alone i) ≡ one_of z (negsuc 0) i = (λ k. record { constant = is k; terms = record { symbol = i; factor = negsuc 0 } ∷ [] }) in
      let z_near : unsigned_abs z ≤ 2 ^ 40 = omega (arith, near) in
      let limited = down_limited z i z_near in
      let made : combined (number z) (negsuc 0) (alone i) ≡ Some (one_of z (negsuc 0) i) =
      combined-made (number z) (alone i) (negsuc 0) (number_limited z z_near) (up_limited (pos 0) i (omega arith)) (ap is_within_limits form ∙ limited) ∙ ap (λ (f : Form). Some f) form in
      let r : ℤ = z +ℤ negsuc 0 *ℤ low in
      let sum = numbers_made z (negsuc 0) low z_near (omega (arith, far)) (omega (arith, ints, near, far)) in
      found_below scope (number z) (alone i) (one_of z (negsuc 0) i) r made
      (found scope i z (negsuc 0) r refl (Loop x) there (number low) one sum less limited) (still r (omega (arith, ints, le)))

  -- and at most what the upper end is
  pub symbol_below : (last high : ℤ) → x.upper ≡ number last ∷ [] → last ≤ℤ high → unsigned_abs last ≤ 2 ^ 38 → unsigned_abs high ≤ 2 ^ 38 → at_most scope (alone i) (number high) ≡ true
  symbol_below last high one le near far =
      let y : ℤ = pos 0 +ℤ negsuc 0 *ℤ high in
      let y_near : unsigned_abs y ≤ 2 ^ 40 = omega (arith, ints, far) in
      let limited = up_limited y i y_near in
      let made : combined (alone i) (negsuc 0) (number high) ≡ Some (one_of y (pos 1) i) =
      combined-made (alone i) (number high) (negsuc 0) (up_limited (pos 0) i (omega arith)) (number_limited high (omega (arith, far))) limited in
      let r : ℤ = y +ℤ pos 1 *ℤ last in
      let sum = numbers_made y (pos 1) last y_near (omega (arith, near)) (omega (arith, ints, near, far)) in
      found_below scope (alone i) (number high) (one_of y (pos 1) i) r made
      (found scope i y (pos 1) r refl (Loop x) there (number last) one sum less limited) (still r (omega (arith, ints, le)))

  -- a number and the symbol are at least a number that is at most its sum with the span's lower end
  pub counted_over : (z low first : ℤ) → x.lower ≡ number first ∷ [] → z ≤ℤ (low +ℤ first) → unsigned_abs z ≤ 2 ^ 38 → unsigned_abs low ≤ 2 ^ 38 → unsigned_abs first ≤ 2 ^ 38 →
      at_most scope (number z) (one_of low (pos 1) i) ≡ true
  counted_over z low first one le near far last_far =
      let y : ℤ = z +ℤ negsuc 0 *ℤ low in
      let y_near : unsigned_abs y ≤ 2 ^ 40 = omega (arith, ints, near, far) in
      let limited = down_limited y i y_near in
      let made : combined (number z) (negsuc 0) (one_of low (pos 1) i) ≡ Some (one_of y (negsuc 0) i) =
      combined-made (number z) (one_of low (pos 1) i) (negsuc 0) (number_limited z (omega (arith, near))) (up_limited low i (omega (arith, far))) limited in
      let r : ℤ = y +ℤ negsuc 0 *ℤ first in
      let sum = numbers_made y (negsuc 0) first y_near (omega (arith, last_far)) (omega (arith, ints, near, far, last_far)) in
      found_below scope (number z) (one_of low (pos 1) i) (one_of y (negsuc 0) i) r made
      (found scope i y (negsuc 0) r refl (Loop x) there (number first) one sum less limited) (still r (omega (arith, ints, le)))

  -- and at most one that is at least that with the upper end
  pub counted_under : (low last high : ℤ) → x.upper ≡ number last ∷ [] → (low +ℤ last) ≤ℤ high → unsigned_abs low ≤ 2 ^ 38 → unsigned_abs last ≤ 2 ^ 38 → unsigned_abs high ≤ 2 ^ 38 →
      at_most scope (one_of low (pos 1) i) (number high) ≡ true
  counted_under low last high one le near far high_far =
      let y : ℤ = low +ℤ negsuc 0 *ℤ high in
      let y_near : unsigned_abs y ≤ 2 ^ 40 = omega (arith, ints, near, high_far) in
      let limited = up_limited y i y_near in
      let made : combined (one_of low (pos 1) i) (negsuc 0) (number high) ≡ Some (one_of y (pos 1) i) =
      combined-made (one_of low (pos 1) i) (number high) (negsuc 0) (up_limited low i (omega (arith, near))) (number_limited high (omega (arith, high_far))) limited in
      let r : ℤ = y +ℤ pos 1 *ℤ last in
      let sum = numbers_made y (pos 1) last y_near (omega (arith, far)) (omega (arith, ints, near, far, high_far)) in
      found_below scope (one_of low (pos 1) i) (number high) (one_of y (pos 1) i) r made
      (found scope i y (pos 1) r refl (Loop x) there (number last) one sum less limited) (still r (omega (arith, ints, le)))
