-- The search where the last symbol of a form is that of a loop with a further upper form, as a guard's: it finds the smaller one of what both find.
use Rattle.std.proofs.Common.{◌≡◌, ℕ, zero, suc, ◌+◌, ◌-◌, ◌<◌, ◌≤◌, ◌^◌, Bool, true, false, ◌&&◌, not, List, [], ◌∷◌, length, map, Option, Some, None, refl, sym, ap, ◌∙◌, subst, arith}
use Rattle.std.specs.Prelude.{ℤ, pos, negsuc, ◌+ℤ◌, ◌*ℤ◌, ◌≤ℤ◌, nat_le, ◌==◌, if◌then◌else◌, slice_get, option_and_then}
use Rattle.std.specs.Option.{option_map_or}
use Rattle.std.specs.Int.{int_min}
use Rattle.std.specs.Int.RustNames.{unsigned_abs}
use Rattle.std.proofs.lemmas.Bool.Decides.{nat_tests}
use Rattle.std.proofs.lemmas.Int.{ints, clamps}
use Rattle.lin.specs.Forms.{Form, number, is_zero, factor_of, in_front, plus_term, plus_multiple, without, is_within_limits, combined}
use Rattle.lin.specs.Search.{candidates, any_may_be, that_counts, replaced, result_at, total, total_at, least, replacements, sup, smaller, at_most}
use Rattle.lin.specs.declared.scope.Binding.{Binding}
use Rattle.lin.specs.declared.scope.Binding.TheVariants.{Loop as Bound}
use Rattle.lin.specs.declared.span.Span1.{Span1}
use Rattle.lin.proofs.Limits.{combined-made, combined-means}
use Rattle.soundness.specs.Shown.{raised}
use Rattle.soundness.proofs.Refines.{eq_refl}
use Rattle.completeness.proofs.GridScope.{number_limited}
use Rattle.completeness.proofs.SelfBounds.{least_number, no_replacements, found_below, still, term_gone}
use Rattle.completeness.proofs.Searched.{one_of, least_is, replacements_are, numbers_made}
use Rattle.completeness.proofs.BlockSums.{multiple, two_of, one_limited, two_limited}

-- two forms may stand in the place of the later symbol: one that leaves the earlier symbol alone, and one that takes it away
module _ (scope : List Binding) (a b : ℕ) (less : a < b) (z c d : ℤ) (some_d : is_zero d ≡ false) (y : Span1) (there_b : slice_get scope b ≡ Some (Bound y)) (f g : Form)
    (two_b : candidates (Bound y) d ≡ f ∷ g ∷ []) (first : Form) (r s : ℤ) (count : ℕ) (made_f : combined (one_of z c a) d f ≡ Some first) (least_f : least scope b first ≡ Some r)
    (count_f : replacements scope b first ≡ count) (made_g : combined (one_of z c a) d g ≡ Some (number s)) where
  differ : (a == b) ≡ false
  differ = grind (arith, nat_tests, less)

  abbrev form : Form
  form = two_of z c a d b

  factor_b : factor_of form.terms b ≡ d
  factor_b =
      let here = eq_refl b in
      let sum : pos 0 +ℤ (d +ℤ pos 0) ≡ d = omega (arith, ints) in
      (λ j. (if differ j then c else pos 0) +ℤ ((if here j then d else pos 0) +ℤ pos 0)) ∙ sum

  other_factor : (n : ℕ) → b < n → factor_of form.terms n ≡ pos 0
  other_factor n above =
      let one : (a == n) ≡ false = grind (arith, nat_tests, less, above) in
      let two : (b == n) ≡ false = grind (arith, nat_tests, above) in
      λ j. (if one j then c else pos 0) +ℤ ((if two j then d else pos 0) +ℤ pos 0)

  gone : without form b ≡ one_of z c a
  gone =
      let here = eq_refl b in
      λ j. record { constant = z; terms = if not (differ j) then multiple a c ∷ (if not (here j) then multiple b d ∷ [] else []) else (if not (here j) then multiple b d ∷ [] else []) }

  abbrev branch : Form → Option ℤ
  branch other = option_and_then (λ next. least scope b next) (replaced form b d other)

  abbrev cost : Form → ℕ
  cost other = suc (option_map_or (λ next. replacements scope b next) (replaced form b d other) 0)

  replaced_f : replaced form b d f ≡ Some first
  replaced_f = ap (λ (h : Form). combined h d f) gone ∙ made_f

  replaced_g : replaced form b d g ≡ Some (number s)
  replaced_g = ap (λ (h : Form). combined h d g) gone ∙ made_g

  branch_f : branch f ≡ Some r
  branch_f = ap (λ (o : Option Form). option_and_then (λ next. least scope b next) o) replaced_f ∙ least_f

  branch_g : branch g ≡ Some s
  branch_g = ap (λ (o : Option Form). option_and_then (λ next. least scope b next) o) replaced_g ∙ least_number scope b s

  cost_f : cost f ≡ suc count
  cost_f = ap (λ (o : Option Form). suc (option_map_or (λ next. replacements scope b next) o 0)) replaced_f ∙ ap suc count_f

  cost_g : cost g ≡ 1
  cost_g = ap (λ (o : Option Form). suc (option_map_or (λ next. replacements scope b next) o 0)) replaced_g ∙ ap suc (no_replacements scope b s)

  result_is : result_at (Some (Bound y)) d branch ≡ Some (int_min r s)
  result_is =
      ap (λ (fs : List Form). that_counts (any_may_be (Bound y) d) (map branch fs)) two_b ∙ (λ j. that_counts (any_may_be (Bound y) d) (branch_f j ∷ branch_g j ∷ []))

  total_is : total_at (Some (Bound y)) d cost ≡ suc (suc count)
  total_is = ap (λ (fs : List Form). total cost fs) two_b ∙ (let one = cost_f in let two = cost_g in omega (arith, one, two))

  at_two : least scope (suc b) form ≡ Some (int_min r s)
  at_two =
      ap (λ (v : ℤ). if is_zero v then least scope b form else result_at (slice_get scope b) v (λ other. option_and_then (λ next. least scope b next) (replaced form b v other))) factor_b
      ∙ ap (λ (v : Bool). if v then least scope b form else result_at (slice_get scope b) d branch) some_d ∙ ap (λ (o : Option Binding). result_at o d branch) there_b ∙ result_is

  count_two : replacements scope (suc b) form ≡ suc (suc count)
  count_two =
      ap (λ (v : ℤ). if is_zero v then replacements scope b form else total_at (slice_get scope b) v (λ other. suc (option_map_or (λ next. replacements scope b next) (replaced form b v other) 0)))
      factor_b
      ∙ ap (λ (v : Bool). if v then replacements scope b form else total_at (slice_get scope b) d cost) some_d ∙ ap (λ (o : Option Binding). total_at o d cost) there_b ∙ total_is

  least_two : (k : ℕ) → least scope (suc (b + k)) form ≡ Some (int_min r s)
  least_two zero = (let none : suc (b + 0) ≡ suc b = omega arith in ap (λ (n : ℕ). least scope n form) none ∙ at_two)
  least_two (suc k) =
      let next : b + suc k ≡ suc (b + k) = omega arith in
      let free = other_factor (suc (b + k)) (omega arith) in
      ap (λ (n : ℕ). least scope (suc n) form) next
      ∙ ap (λ (v : ℤ). if is_zero v then least scope (suc (b + k)) form else result_at (slice_get scope (suc (b + k))) v
      (λ other. option_and_then (λ next. least scope (suc (b + k)) next) (replaced form (suc (b + k)) v other))) free
      ∙ least_two k

  replacements_two : (k : ℕ) → replacements scope (suc (b + k)) form ≡ suc (suc count)
  replacements_two zero = (let none : suc (b + 0) ≡ suc b = omega arith in ap (λ (n : ℕ). replacements scope n form) none ∙ count_two)
  replacements_two (suc k) =
      let next : b + suc k ≡ suc (b + k) = omega arith in
      let free = other_factor (suc (b + k)) (omega arith) in
      ap (λ (n : ℕ). replacements scope (suc n) form) next
      ∙ ap (λ (v : ℤ). if is_zero v then replacements scope (suc (b + k)) form else total_at (slice_get scope (suc (b + k))) v
      (λ other. suc (option_map_or (λ next. replacements scope (suc (b + k)) next) (replaced form (suc (b + k)) v other) 0))) free
      ∙ replacements_two k

  pub found_smaller : (k : ℕ) → length scope ≡ suc (b + k) → count ≤ 1024 → is_within_limits form ≡ true → sup scope form ≡ Some (int_min r s)
  found_smaller k long few limited =
      let low : nat_le (suc (suc count)) 4096 ≡ true = grind (arith, nat_tests, few) in
      ap (λ (v : Bool). if v && nat_le (replacements scope (length scope) form) 4096 then least scope (length scope) form else None) limited
      ∙ ap (λ (n : ℕ). if nat_le (replacements scope n form) 4096 then least scope n form else None) long
      ∙ ap (λ (n : ℕ). if nat_le n 4096 then least scope (suc (b + k)) form else None) (replacements_two k)
      ∙ ap (λ (v : Bool). if v then least scope (suc (b + k)) form else None) low ∙ least_two k

pub smaller_right : (r s : ℤ) → s ≤ℤ pos 0 → int_min r s ≤ℤ pos 0
smaller_right r s h = omega (arith, ints, clamps, h)

pub smaller_left : (r s : ℤ) → r ≤ℤ pos 0 → int_min r s ≤ℤ pos 0
smaller_left r s h = omega (arith, ints, clamps, h)

-- ---- a block whose last number is kept

-- what is left of the numbers up to the last one, less the first number of the block
abbrev pub left_over : ℤ → ℤ → ℤ → ℕ → Form
left_over last low c a = record { constant = last +ℤ negsuc 0 *ℤ low; terms = multiple a (negsuc 0 *ℤ c) ∷ [] }

-- it is what is left of the last number, less the position without the symbol within the block
pub left_is : (last low : ℤ) (k a b : ℕ) → a < b → (f : Form) → combined (number last) (negsuc 0) (without (two_of low (pos (suc k)) a (pos 1) b) b) ≡ Some f → f ≡ left_over last low (pos (suc k)) a
left_is last low k a b less f e =
    let differ : (a == b) ≡ false = grind (arith, nat_tests, less) in
    let here = eq_refl b in
    let gone : without (two_of low (pos (suc k)) a (pos 1) b) b ≡ one_of low (pos (suc k)) a =
    (λ j. record {
      constant = low;
      terms = if not (differ j) then multiple a (pos (suc k)) ∷ (if not (here j) then multiple b (pos 1) ∷ [] else []) else (if not (here j) then multiple b (pos 1) ∷ [] else []);
    }) in
    let some : is_zero (negsuc 0 *ℤ pos (suc k)) ≡ false = ap is_zero (turned k) in
    (combined-means (number last) (negsuc 0) (without (two_of low (pos (suc k)) a (pos 1) b) b) f e).is ∙ ap (plus_multiple (number last) (negsuc 0)) gone
    ∙ (λ j. record { constant = last +ℤ negsuc 0 *ℤ low; terms = if some j then [] else multiple a (negsuc 0 *ℤ pos (suc k)) ∷ [] })
  where
    turned : (n : ℕ) → negsuc 0 *ℤ pos (suc n) ≡ negsuc n
    turned n = omega (arith, ints)

module _ (scope : List Binding) (a b : ℕ) (less : a < b) (inside : b < length scope) (k t : ℕ) (few : suc k ≤ 1024) (x y : Span1) (there_a : slice_get scope a ≡ Some (Bound x))
    (there_b : slice_get scope b ≡ Some (Bound y)) (low last : ℤ) (near : unsigned_abs low ≤ 2 ^ 36) (last_near : unsigned_abs last ≤ 2 ^ 36)
    (x_last : x.upper ≡ number (pos t) ∷ []) (y_last : y.upper ≡ number (pos k) ∷ left_over last low (pos (suc k)) a ∷ []) (t_near : unsigned_abs (pos t) ≤ 2 ^ 36)
    (times_near : unsigned_abs (pos (suc k) *ℤ pos t) ≤ 2 ^ 38) where
  abbrev c : ℤ
  c = pos (suc k)

  abbrev limit : Form
  limit = left_over last low (pos (suc k)) a

  abbrev rest : ℕ
  rest = length scope - suc b

  long : length scope ≡ suc (b + rest)
  long = omega (arith, inside)

  pub limited_below : (high : ℤ) → unsigned_abs high ≤ 2 ^ 37 → last ≤ℤ high → at_most scope (two_of low (pos (suc k)) a (pos 1) b) (number high) ≡ true
  limited_below high high_near le =
      let z : ℤ = low +ℤ negsuc 0 *ℤ high in
      let z_near : unsigned_abs z ≤ 2 ^ 38 = less_near low high near high_near in
      let factor_few : unsigned_abs c ≤ 2 ^ 20 = omega (arith, few) in
      let neg_few : unsigned_abs (negsuc 0 *ℤ c) ≤ 2 ^ 20 = omega (arith, ints, few) in
      let left_near : unsigned_abs (last +ℤ negsuc 0 *ℤ low) ≤ 2 ^ 38 = less_near last low last_near (wider low near) in
      let limited_sum = two_limited z c a (pos 1) b (omega (arith, z_near)) factor_few (omega arith) in
      let made : combined (two_of low c a (pos 1) b) (negsuc 0) (number high) ≡ Some (two_of z c a (pos 1) b) =
      combined-made (two_of low c a (pos 1) b) (number high) (negsuc 0) (two_limited low c a (pos 1) b (omega (arith, near)) factor_few (omega arith)) (number_limited high (omega (arith, high_near)))
      limited_sum in
      let mid : ℤ = z +ℤ pos 1 *ℤ pos k in
      let k_few : unsigned_abs (pos 1 *ℤ pos k) ≤ 1024 = one_time k few in
      let mid_near : unsigned_abs mid ≤ 2 ^ 39 = sum_near z (pos 1 *ℤ pos k) (2 ^ 38) 1024 (2 ^ 39) z_near k_few (omega arith) in
      let made_f : combined (one_of z c a) (pos 1) (number (pos k)) ≡ Some (one_of mid c a) =
      combined-made (one_of z c a) (number (pos k)) (pos 1) (one_limited z c a (omega (arith, z_near)) factor_few) (number_limited (pos k) (omega (arith, few)))
      (one_limited mid c a (omega (arith, mid_near)) factor_few) in
      let r : ℤ = mid +ℤ c *ℤ pos t in
      let r_near : unsigned_abs r ≤ 2 ^ 40 = sum_near mid (c *ℤ pos t) (2 ^ 39) (2 ^ 38) (2 ^ 40) mid_near times_near (omega arith) in
      let made_a = numbers_made mid c (pos t) (omega (arith, mid_near)) (omega (arith, t_near)) r_near in
      let s : ℤ = z +ℤ pos 1 *ℤ (last +ℤ negsuc 0 *ℤ low) in
      let s_is : s ≡ last +ℤ negsuc 0 *ℤ high = cancelled low high last in
      let s_near : unsigned_abs s ≤ 2 ^ 40 = subst (λ (w : ℤ). unsigned_abs w ≤ 2 ^ 40) (sym s_is) (wide last high (less_near last high last_near high_near)) in
      let once : pos 1 *ℤ (negsuc 0 *ℤ c) ≡ negsuc 0 *ℤ c = one_factor (negsuc 0 *ℤ c) in
      let gone_term = term_gone (multiple a c) [] in
      let is : plus_multiple (one_of z c a) (pos 1) limit ≡ number s = (λ j. record { constant = s; terms = plus_term (multiple a c ∷ []) (multiple a (once j)) })
      ∙ (λ j. record { constant = s; terms = gone_term j }) in
      let made_g : combined (one_of z c a) (pos 1) limit ≡ Some (number s) =
      combined-made (one_of z c a) limit (pos 1) (one_limited z c a (omega (arith, z_near)) factor_few)
      (one_limited (last +ℤ negsuc 0 *ℤ low) (negsuc 0 *ℤ c) a (omega (arith, left_near)) neg_few) (ap is_within_limits is ∙ number_limited s s_near) ∙ ap (λ (f : Form). Some f) is in
      let found = found_smaller scope a b less z c (pos 1) refl y there_b (number (pos k)) limit y_last (one_of mid c a) r s 1 made_f
      (least_is scope a mid c r refl (Bound x) there_a (number (pos t)) x_last made_a b less) (replacements_are scope a mid c r refl (Bound x) there_a (number (pos t)) x_last made_a b less) made_g
      rest long (omega arith) limited_sum in
      found_below scope (two_of low c a (pos 1) b) (number high) (two_of z c a (pos 1) b) (int_min r s) made found
      (still (int_min r s) (smaller_right r s (subst (λ (w : ℤ). w ≤ℤ pos 0) (sym s_is) (under_it last high le))))
    where
      less_near : (p q : ℤ) → unsigned_abs p ≤ 2 ^ 36 → unsigned_abs q ≤ 2 ^ 37 → unsigned_abs (p +ℤ negsuc 0 *ℤ q) ≤ 2 ^ 38
      less_near p q h g = omega (arith, ints, h, g)

      wider : (p : ℤ) → unsigned_abs p ≤ 2 ^ 36 → unsigned_abs p ≤ 2 ^ 37
      wider p h = omega (arith, h)

      wide : (p q : ℤ) → unsigned_abs (p +ℤ negsuc 0 *ℤ q) ≤ 2 ^ 38 → unsigned_abs (p +ℤ negsuc 0 *ℤ q) ≤ 2 ^ 40
      wide p q h = omega (arith, h)

      sum_near : (p q : ℤ) (m n o : ℕ) → unsigned_abs p ≤ m → unsigned_abs q ≤ n → m + n ≤ o → unsigned_abs (p +ℤ q) ≤ o
      sum_near p q m n o h g le = omega (arith, ints, h, g, le)

      one_time : (n : ℕ) → suc n ≤ 1024 → unsigned_abs (pos 1 *ℤ pos n) ≤ 1024
      one_time n h = omega (arith, ints, h)

      one_factor : (p : ℤ) → pos 1 *ℤ p ≡ p
      one_factor p = omega (arith, ints)

      cancelled : (p q m : ℤ) → ((p +ℤ negsuc 0 *ℤ q) +ℤ pos 1 *ℤ (m +ℤ negsuc 0 *ℤ p)) ≡ m +ℤ negsuc 0 *ℤ q
      cancelled p q m = omega (arith, ints)

      under_it : (p q : ℤ) → p ≤ℤ q → (p +ℤ negsuc 0 *ℤ q) ≤ℤ pos 0
      under_it p q h = omega (arith, ints, h)

-- ---- one symbol, of a loop with a further upper form

module _ (scope : List Binding) (i : ℕ) (z c : ℤ) (some : is_zero c ≡ false) (y : Span1) (there : slice_get scope i ≡ Some (Bound y)) (f g : Form) (two : candidates (Bound y) c ≡ f ∷ g ∷ [])
    (r : ℤ) (made_f : combined (number z) c f ≡ Some (number r)) (second : Form) (o : Option ℤ) (count : ℕ) (made_g : combined (number z) c g ≡ Some second) (least_g : least scope i second ≡ o)
    (count_g : replacements scope i second ≡ count) where
  here_factor : factor_of (multiple i c ∷ []) i ≡ c
  here_factor = (let sum : c +ℤ pos 0 ≡ c = omega (arith, ints) in ap (λ (v : Bool). (if v then c else pos 0) +ℤ pos 0) (eq_refl i) ∙ sum)

  away_factor : (n : ℕ) → (i == n) ≡ false → factor_of (multiple i c ∷ []) n ≡ pos 0
  away_factor n e = ap (λ (v : Bool). (if v then c else pos 0) +ℤ pos 0) e

  gone_one : without (one_of z c i) i ≡ number z
  gone_one = ap (λ (v : Bool). record { constant = z; terms = if not v then multiple i c ∷ [] else [] }) (eq_refl i)

  abbrev branch_one : Form → Option ℤ
  branch_one other = option_and_then (λ next. least scope i next) (replaced (one_of z c i) i c other)

  abbrev cost_one : Form → ℕ
  cost_one other = suc (option_map_or (λ next. replacements scope i next) (replaced (one_of z c i) i c other) 0)

  one_f : replaced (one_of z c i) i c f ≡ Some (number r)
  one_f = ap (λ (h : Form). combined h c f) gone_one ∙ made_f

  one_g : replaced (one_of z c i) i c g ≡ Some second
  one_g = ap (λ (h : Form). combined h c g) gone_one ∙ made_g

  result_one : result_at (Some (Bound y)) c branch_one ≡ smaller (Some r) o
  result_one =
      let left = ap (λ (q : Option Form). option_and_then (λ next. least scope i next) q) one_f ∙ least_number scope i r in
      let right = ap (λ (q : Option Form). option_and_then (λ next. least scope i next) q) one_g ∙ least_g in
      ap (λ (fs : List Form). that_counts (any_may_be (Bound y) c) (map branch_one fs)) two ∙ (λ j. that_counts (any_may_be (Bound y) c) (left j ∷ right j ∷ []))

  total_one : total_at (Some (Bound y)) c cost_one ≡ suc (suc count)
  total_one =
      let left = ap (λ (q : Option Form). suc (option_map_or (λ next. replacements scope i next) q 0)) one_f ∙ ap suc (no_replacements scope i r) in
      let right = ap (λ (q : Option Form). suc (option_map_or (λ next. replacements scope i next) q 0)) one_g ∙ ap suc count_g in
      ap (λ (fs : List Form). total cost_one fs) two ∙ omega (arith, left, right)

  least_one : (n : ℕ) → i < n → least scope n (one_of z c i) ≡ smaller (Some r) o
  least_one zero less = absurd (omega (arith, less))
  least_one (suc n) less = of (i == n) refl (λ low. least_one n low)
    where
      of : (v : Bool) → (i == n) ≡ v → (i < n → least scope n (one_of z c i) ≡ smaller (Some r) o) → least scope (suc n) (one_of z c i) ≡ smaller (Some r) o
      of true e rest =
          let same : i ≡ n = grind (arith, nat_tests, e) in
          subst (λ (k : ℕ). least scope (suc k) (one_of z c i) ≡ smaller (Some r) o) same
          (ap (λ (v : ℤ). if is_zero v then least scope i (one_of z c i) else result_at (slice_get scope i) v
          (λ other. option_and_then (λ next. least scope i next) (replaced (one_of z c i) i v other))) here_factor
          ∙ ap (λ (v : Bool). if v then least scope i (one_of z c i) else result_at (slice_get scope i) c branch_one) some
          ∙ ap (λ (q : Option Binding). result_at q c branch_one) there ∙ result_one)
      of false e rest =
          let low : i < n = grind (arith, nat_tests, less, e) in
          ap (λ (v : ℤ). if is_zero v then least scope n (one_of z c i) else result_at (slice_get scope n) v
          (λ other. option_and_then (λ next. least scope n next) (replaced (one_of z c i) n v other))) (away_factor n e) ∙ rest low

  replacements_one : (n : ℕ) → i < n → replacements scope n (one_of z c i) ≡ suc (suc count)
  replacements_one zero less = absurd (omega (arith, less))
  replacements_one (suc n) less = of (i == n) refl (λ low. replacements_one n low)
    where
      of : (v : Bool) → (i == n) ≡ v → (i < n → replacements scope n (one_of z c i) ≡ suc (suc count)) → replacements scope (suc n) (one_of z c i) ≡ suc (suc count)
      of true e rest =
          let same : i ≡ n = grind (arith, nat_tests, e) in
          subst (λ (k : ℕ). replacements scope (suc k) (one_of z c i) ≡ suc (suc count)) same
          (ap (λ (v : ℤ). if is_zero v then replacements scope i (one_of z c i) else total_at (slice_get scope i) v
          (λ other. suc (option_map_or (λ next. replacements scope i next) (replaced (one_of z c i) i v other) 0))) here_factor
          ∙ ap (λ (v : Bool). if v then replacements scope i (one_of z c i) else total_at (slice_get scope i) c cost_one) some
          ∙ ap (λ (q : Option Binding). total_at q c cost_one) there ∙ total_one)
      of false e rest =
          let low : i < n = grind (arith, nat_tests, less, e) in
          ap (λ (v : ℤ). if is_zero v then replacements scope n (one_of z c i) else total_at (slice_get scope n) v
          (λ other. suc (option_map_or (λ next. replacements scope n next) (replaced (one_of z c i) n v other) 0))) (away_factor n e) ∙ rest low

  pub found_one : i < length scope → count ≤ 1024 → is_within_limits (one_of z c i) ≡ true → sup scope (one_of z c i) ≡ smaller (Some r) o
  found_one less few limited =
      let low : nat_le (suc (suc count)) 4096 ≡ true = grind (arith, nat_tests, few) in
      ap (λ (v : Bool). if v && nat_le (replacements scope (length scope) (one_of z c i)) 4096 then least scope (length scope) (one_of z c i) else None) limited
      ∙ ap (λ (n : ℕ). if nat_le n 4096 then least scope (length scope) (one_of z c i) else None) (replacements_one (length scope) less)
      ∙ ap (λ (v : Bool). if v then least scope (length scope) (one_of z c i) else None) low ∙ least_one (length scope) less
  -- where the number that the first one finds is at most 0

-- ---- a block's numbers, where the last ones are kept

module _ (scope : List Binding) (s m : ℕ) (less : s < m) (inside : m < length scope) (k : ℕ) (few : suc k ≤ 1024) (x y : Span1) (there_s : slice_get scope s ≡ Some (Bound x))
    (there_m : slice_get scope m ≡ Some (Bound y)) (low last : ℤ) (near : unsigned_abs low ≤ 2 ^ 36) (last_near : unsigned_abs last ≤ 2 ^ 36) (x_low : x.lower ≡ number (pos 0) ∷ [])
    (y_last : y.upper ≡ number (pos k) ∷ left_over last low (pos (suc k)) s ∷ []) where
  abbrev w : ℤ
  w = negsuc 0 *ℤ pos (suc k)

  w_is : w ≡ negsuc k
  w_is = omega (arith, ints)

  pub kept_below : at_most scope (two_of low (pos (suc k)) s (pos 1) m) (raised (one_of low (pos (suc k)) s) (pos k)) ≡ true
  kept_below =
      let z : ℤ = low +ℤ negsuc 0 *ℤ (low +ℤ pos k) in
      let z_is : z ≡ negsuc 0 *ℤ pos k = omega (arith, ints) in
      let z_near : unsigned_abs z ≤ 2 ^ 37 = subst (λ (v : ℤ). unsigned_abs v ≤ 2 ^ 37) (sym z_is) (omega (arith, ints, few)) in
      let gone = term_gone (multiple s (pos (suc k))) (multiple m (pos 1) ∷ []) in
      let is : plus_multiple (two_of low (pos (suc k)) s (pos 1) m) (negsuc 0) (raised (one_of low (pos (suc k)) s) (pos k)) ≡ one_of z (pos 1) m = (λ j. record { constant = z; terms = gone j }) in
      let limited_sum = one_limited z (pos 1) m (omega (arith, z_near)) (omega arith) in
      let top_near : unsigned_abs (low +ℤ pos k) ≤ 2 ^ 40 = sum_near low (pos k) (2 ^ 36) 1024 (2 ^ 40) near (omega (arith, few)) (omega arith) in
      let factor_few : unsigned_abs (pos (suc k)) ≤ 2 ^ 20 = omega (arith, few) in
      let neg_few : unsigned_abs w ≤ 2 ^ 20 = subst (λ (v : ℤ). unsigned_abs v ≤ 2 ^ 20) (sym w_is) (omega (arith, few)) in
      let made : combined (two_of low (pos (suc k)) s (pos 1) m) (negsuc 0) (raised (one_of low (pos (suc k)) s) (pos k)) ≡ Some (one_of z (pos 1) m) =
      combined-made (two_of low (pos (suc k)) s (pos 1) m) (raised (one_of low (pos (suc k)) s) (pos k)) (negsuc 0)
      (two_limited low (pos (suc k)) s (pos 1) m (omega (arith, near)) factor_few (omega arith)) (one_limited (low +ℤ pos k) (pos (suc k)) s top_near factor_few)
      (ap is_within_limits is ∙ limited_sum) ∙ ap (λ (f : Form). Some f) is in
      let r : ℤ = z +ℤ pos 1 *ℤ pos k in
      let r_is : r ≡ pos 0 = by_one z (pos k) z_is in
      let zero_near : unsigned_abs (pos 0) ≤ 2 ^ 40 = omega arith in
      let made_f : combined (number z) (pos 1) (number (pos k)) ≡ Some (number r) =
      combined-made (number z) (number (pos k)) (pos 1) (number_limited z (omega (arith, z_near))) (number_limited (pos k) (omega (arith, few)))
      (number_limited r (subst (λ (v : ℤ). unsigned_abs v ≤ 2 ^ 40) (sym r_is) zero_near)) in
      let left : ℤ = last +ℤ negsuc 0 *ℤ low in
      let left_near : unsigned_abs left ≤ 2 ^ 38 = less_near last low last_near near in
      let next : ℤ = z +ℤ pos 1 *ℤ left in
      let next_near : unsigned_abs next ≤ 2 ^ 39 = times_near z left z_near left_near in
      let once : pos 1 *ℤ w ≡ w = one_factor w in
      let some_w : is_zero w ≡ false = ap is_zero w_is in
      let sum_g : plus_multiple (number z) (pos 1) (left_over last low (pos (suc k)) s) ≡ one_of next w s = (λ j. record { constant = next; terms = in_front (multiple s (once j)) [] })
      ∙ (λ j. record { constant = next; terms = if some_w j then [] else multiple s w ∷ [] }) in
      let made_g : combined (number z) (pos 1) (left_over last low (pos (suc k)) s) ≡ Some (one_of next w s) =
      combined-made (number z) (left_over last low (pos (suc k)) s) (pos 1) (number_limited z (omega (arith, z_near))) (one_limited left w s (omega (arith, left_near)) neg_few)
      (ap is_within_limits sum_g ∙ one_limited next w s (omega (arith, next_near)) neg_few) ∙ ap (λ (f : Form). Some f) sum_g in
      let none : w *ℤ pos 0 ≡ pos 0 = nothing w in
      let r' : ℤ = next +ℤ w *ℤ pos 0 in
      let r'_near : unsigned_abs r' ≤ 2 ^ 40 = subst (λ (v : ℤ). unsigned_abs (next +ℤ v) ≤ 2 ^ 40) (sym none) (still_near next next_near) in
      let low_candidates : candidates (Bound x) w ≡ number (pos 0) ∷ [] = ap (candidates (Bound x)) w_is ∙ x_low in
      let made_a = numbers_made next w (pos 0) (omega (arith, next_near)) zero_near r'_near in
      let found = found_one scope m z (pos 1) refl y there_m (number (pos k)) (left_over last low (pos (suc k)) s) y_last r made_f (one_of next w s) (Some r') 1 made_g
      (least_is scope s next w r' some_w (Bound x) there_s (number (pos 0)) low_candidates made_a m less)
      (replacements_are scope s next w r' some_w (Bound x) there_s (number (pos 0)) low_candidates made_a m less) inside (omega arith) limited_sum in
      found_below scope (two_of low (pos (suc k)) s (pos 1) m) (raised (one_of low (pos (suc k)) s) (pos k)) (one_of z (pos 1) m) (int_min r r') made found
      (still (int_min r r') (smaller_left r r' (subst (λ (v : ℤ). v ≤ℤ pos 0) (sym r_is) (omega (arith, ints)))))
    where
      sum_near : (p q : ℤ) (a b o : ℕ) → unsigned_abs p ≤ a → unsigned_abs q ≤ b → a + b ≤ o → unsigned_abs (p +ℤ q) ≤ o
      sum_near p q a b o h g le = omega (arith, ints, h, g, le)

      less_near : (p q : ℤ) → unsigned_abs p ≤ 2 ^ 36 → unsigned_abs q ≤ 2 ^ 36 → unsigned_abs (p +ℤ negsuc 0 *ℤ q) ≤ 2 ^ 38
      less_near p q h g = omega (arith, ints, h, g)

      times_near : (p q : ℤ) → unsigned_abs p ≤ 2 ^ 37 → unsigned_abs q ≤ 2 ^ 38 → unsigned_abs (p +ℤ pos 1 *ℤ q) ≤ 2 ^ 39
      times_near p q h g = omega (arith, ints, h, g)

      by_one : (p q : ℤ) → p ≡ negsuc 0 *ℤ q → p +ℤ pos 1 *ℤ q ≡ pos 0
      by_one p q e = omega (arith, ints, e)

      one_factor : (p : ℤ) → pos 1 *ℤ p ≡ p
      one_factor p = omega (arith, ints)

      nothing : (p : ℤ) → p *ℤ pos 0 ≡ pos 0
      nothing p = omega (arith, ints)

      still_near : (p : ℤ) → unsigned_abs p ≤ 2 ^ 39 → unsigned_abs (p +ℤ pos 0) ≤ 2 ^ 40
      still_near p h = omega (arith, ints, h)
