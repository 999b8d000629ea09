-- A loop's symbol is shown to be at least the first number of its span, and at most the last.
use Rattle.std.proofs.Common.{◌≡◌, ℕ, zero, suc, ◌+◌, ◌<◌, ◌≤◌, ◌^◌, Bool, true, false, not, List, [], ◌∷◌, length, map, Option, Some, None, refl, ap, ◌∙◌, arith}
use Rattle.std.specs.Prelude.{ℤ, pos, negsuc, ◌+ℤ◌, ◌*ℤ◌, ◌==◌, ◌&&◌, if◌then◌else◌, nat_lt, nat_le, slice_get, option_and_then}
use Rattle.std.specs.Option.{option_map_or}
use Rattle.std.specs.Int.RustNames.{unsigned_abs}
use Rattle.std.proofs.lemmas.Bool.{le-leb}
use Rattle.std.proofs.lemmas.Bool.Decides.{nat_tests}
use Rattle.std.proofs.lemmas.Int.{ints}
use Rattle.lin.specs.Forms.{Form, number, factor_of, is_zero, plus_multiple, is_within_limits, combined, without}
use Rattle.lin.specs.Search.{candidates, any_may_be, that_counts, replaced, result_at, total, total_at, least, replacements, sup, is_at_most_zero, at_most}
use Rattle.lin.specs.declared.scope.Binding.{Binding}
use Rattle.lin.specs.declared.scope.Binding.TheVariants.{Loop}
use Rattle.lin.specs.declared.span.Span1.{Span1}
use Rattle.lin.proofs.Limits.{combined-made}
use Rattle.soundness.proofs.Refines.{eq_refl}
use Rattle.sched.specs.Standing.{alone}
use Rattle.completeness.proofs.GridScope.{number_limited}

-- a number and a multiple of one symbol
abbrev single : ℤ → ℕ → ℤ → Form
single c s f = record { constant = c; terms = record { symbol = s; factor = f } ∷ [] }

least_number : (scope : List Binding) (n : ℕ) (z : ℤ) → least scope n (number z) ≡ Some z
least_number scope zero z = refl
least_number scope (suc n) z = least_number scope n z

no_replacements : (scope : List Binding) (n : ℕ) (z : ℤ) → replacements scope n (number z) ≡ 0
no_replacements scope zero z = refl
no_replacements scope (suc n) z = no_replacements scope n z

module _ (scope : List Binding) (s : ℕ) (x : Span1) (c z f : ℤ) (there : slice_get scope s ≡ Some (Loop x)) (within : s < length scope) (factor : f +ℤ pos 0 ≡ f) (some : is_zero f ≡ false)
    (one : any_may_be (Loop x) f ≡ false) (choice : candidates (Loop x) f ≡ number z ∷ []) (sum : c +ℤ f *ℤ z ≡ pos 0) (limited : is_within_limits (single c s f) ≡ true)
    (near : unsigned_abs c ≤ 2 ^ 40) (last_near : unsigned_abs z ≤ 2 ^ 40) where
  abbrev d : Form
  d = single c s f

  no_factor : (n : ℕ) → s < n → is_zero (factor_of d.terms n) ≡ true
  no_factor n less = (let differs : (s == n) ≡ false = grind (arith, nat_tests) in ap (λ (b : Bool). is_zero ((if b then f else pos 0) +ℤ pos 0)) differs)

  least_skip : (n : ℕ) → s < n → least scope n d ≡ least scope (suc s) d
  least_skip zero less = absurd (omega (arith, less))
  least_skip (suc n) less = of (nat_lt s n) refl (λ k. least_skip n k)
    where
      of : (b : Bool) → nat_lt s n ≡ b → (s < n → least scope n d ≡ least scope (suc s) d) → least scope (suc n) d ≡ least scope (suc s) d
      of true e rest =
          let low : s < n = grind (arith, nat_tests, e) in
          ap (λ (b : Bool). if b then least scope n d else result_at (slice_get scope n) (factor_of d.terms n)
          (λ other. option_and_then (λ next. least scope n next) (replaced d n (factor_of d.terms n) other))) (no_factor n low) ∙ rest low
      of false e rest = (let next : suc n ≡ suc s = grind (arith, nat_tests, e, less) in ap (λ (k : ℕ). least scope k d) next)

  replacements_skip : (n : ℕ) → s < n → replacements scope n d ≡ replacements scope (suc s) d
  replacements_skip zero less = absurd (omega (arith, less))
  replacements_skip (suc n) less = of (nat_lt s n) refl (λ k. replacements_skip n k)
    where
      of : (b : Bool) → nat_lt s n ≡ b → (s < n → replacements scope n d ≡ replacements scope (suc s) d) → replacements scope (suc n) d ≡ replacements scope (suc s) d
      of true e rest =
          let low : s < n = grind (arith, nat_tests, e) in
          ap (λ (b : Bool). if b then replacements scope n d else total_at (slice_get scope n) (factor_of d.terms n)
          (λ other. suc (option_map_or (λ next. replacements scope n next) (replaced d n (factor_of d.terms n) other) 0))) (no_factor n low) ∙ rest low
      of false e rest = (let next : suc n ≡ suc s = grind (arith, nat_tests, e, less) in ap (λ (k : ℕ). replacements scope k d) next)

  fact : factor_of d.terms s ≡ f
  fact = ap (λ (b : Bool). (if b then f else pos 0) +ℤ pos 0) (eq_refl s) ∙ factor

  gone : replaced d s f (number z) ≡ Some (number (pos 0))
  gone =
      let bare : without d s ≡ number c = ap (λ (b : Bool). record { constant = c; terms = if not b then record { symbol = s; factor = f } ∷ [] else [] }) (eq_refl s) in
      let is : plus_multiple (number c) f (number z) ≡ number (pos 0) = λ i. number (sum i) in
      ap (λ (g : Form). combined g f (number z)) bare
      ∙ combined-made (number c) (number z) f (number_limited c near) (number_limited z last_near) (ap is_within_limits is) ∙ ap (λ (g : Form). Some g) is

  abbrev found : Form → Option ℤ
  found other = option_and_then (λ next. least scope s next) (replaced d s f other)

  abbrev counted : Form → ℕ
  counted other = suc (option_map_or (λ next. replacements scope s next) (replaced d s f other) 0)

  least_here : least scope (suc s) d ≡ Some (pos 0)
  least_here =
      (λ i. if is_zero (fact i) then least scope s d else result_at (there i) (fact i) (λ other. option_and_then (λ next. least scope s next) (replaced d s (fact i) other)))
      ∙ ap (λ (b : Bool). if b then least scope s d else that_counts (any_may_be (Loop x) f) (map found (candidates (Loop x) f))) some
      ∙ (λ i. that_counts (one i) (map found (choice i)))
      ∙ ap (option_and_then (λ next. least scope s next)) gone ∙ least_number scope s (pos 0)

  replacements_here : replacements scope (suc s) d ≡ 1
  replacements_here =
      (λ i. if is_zero (fact i) then replacements scope s d else total_at (there i) (fact i)
      (λ other. suc (option_map_or (λ next. replacements scope s next) (replaced d s (fact i) other) 0)))
      ∙ ap (λ (b : Bool). if b then replacements scope s d else total counted (candidates (Loop x) f)) some
      ∙ ap (total counted) choice
      ∙ ap (λ (o : Option Form). suc (option_map_or (λ next. replacements scope s next) o 0) + 0) gone ∙ ap (λ (n : ℕ). suc n + 0) (no_replacements scope s (pos 0))

  pub sup_is : sup scope d ≡ Some (pos 0)
  sup_is =
      let counts : replacements scope (length scope) d ≡ 1 = replacements_skip (length scope) within ∙ replacements_here in
      let least_is : least scope (length scope) d ≡ Some (pos 0) = least_skip (length scope) within ∙ least_here in
      (λ i. if limited i && nat_le (counts i) 4096 then least_is i else None)

module _ (scope : List Binding) (s : ℕ) (low last : ℤ) (near : unsigned_abs low ≤ 2 ^ 39) (last_near : unsigned_abs last ≤ 2 ^ 39)
    (there : slice_get scope s ≡ Some (Loop (record { lower = number low ∷ []; upper = number last ∷ [] }))) (within : s < length scope) where
  abbrev x : Span1
  x = record { lower = number low ∷ []; upper = number last ∷ [] }

  pub loop_above : at_most scope (number low) (alone s) ≡ true
  loop_above =
      let same : low +ℤ negsuc 0 *ℤ pos 0 ≡ low = omega (arith, ints) in
      let is : plus_multiple (number low) (negsuc 0) (alone s) ≡ single low s (negsuc 0) = λ i. single (same i) s (negsuc 0) in
      let wide : unsigned_abs low ≤ 2 ^ 40 = omega (arith, near) in
      let limited : is_within_limits (single low s (negsuc 0)) ≡ true = le-leb (unsigned_abs low) (2 ^ 40) wide in
      let made : combined (number low) (negsuc 0) (alone s) ≡ Some (single low s (negsuc 0)) =
      combined-made (number low) (alone s) (negsuc 0) (number_limited low wide) refl (ap is_within_limits is ∙ limited) ∙ ap (λ (g : Form). Some g) is in
      let sum : low +ℤ negsuc 0 *ℤ low ≡ pos 0 = omega (arith, ints) in
      ap (λ (o : Option Form). is_at_most_zero (option_and_then (λ d. sup scope d) o)) made
      ∙ ap is_at_most_zero (sup_is scope s x low low (negsuc 0) there within refl refl refl refl sum limited wide wide)

  pub loop_below : at_most scope (alone s) (number last) ≡ true
  loop_below =
      let c : ℤ = pos 0 +ℤ negsuc 0 *ℤ last in
      let wide : unsigned_abs last ≤ 2 ^ 40 = omega (arith, last_near) in
      let wide_other : unsigned_abs c ≤ 2 ^ 40 = omega (arith, ints, last_near) in
      let limited : is_within_limits (single c s (pos 1)) ≡ true = le-leb (unsigned_abs c) (2 ^ 40) wide_other in
      let made : combined (alone s) (negsuc 0) (number last) ≡ Some (single c s (pos 1)) = combined-made (alone s) (number last) (negsuc 0) refl (number_limited last wide) limited in
      let sum : c +ℤ pos 1 *ℤ last ≡ pos 0 = omega (arith, ints) in
      ap (λ (o : Option Form). is_at_most_zero (option_and_then (λ d. sup scope d) o)) made
      ∙ ap is_at_most_zero (sup_is scope s x c last (pos 1) there within refl refl refl refl sum limited wide_other wide)
