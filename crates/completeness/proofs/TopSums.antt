-- The search at the latest symbol of a form: by the one form that may stand in the symbol's place, or by two; and so over two symbols of loops with numbers as ends.
use Rattle.std.proofs.Common.{◌≡◌, ℕ, zero, suc, ◌+◌, ◌<◌, ◌≤◌, ◌^◌, Bool, true, false, ◌&&◌, not, List, [], ◌∷◌, length, map, Option, Some, None, refl, ap, ◌∙◌, subst, arith}
use Rattle.std.specs.Prelude.{ℤ, pos, negsuc, ◌+ℤ◌, ◌*ℤ◌, ◌==◌, nat_lt, nat_le, if◌then◌else◌, slice_get, option_and_then}
use Rattle.std.specs.Option.{option_map_or}
use Rattle.std.specs.Int.RustNames.{unsigned_abs}
use Rattle.std.proofs.lemmas.Bool.Decides.{nat_tests}
use Rattle.std.proofs.lemmas.Int.{ints}
use Rattle.lin.specs.Forms.{Form, number, is_zero, factor_of, without, is_within_limits, combined}
use Rattle.lin.specs.Search.{candidates, any_may_be, that_counts, pick, replaced, result_at, total, total_at, least, replacements, sup, is_at_most_zero, at_most}
use Rattle.lin.specs.declared.scope.Binding.{Binding}
use Rattle.lin.proofs.Limits.{combined-made}
use Rattle.soundness.proofs.Refines.{eq_refl}
use Rattle.completeness.proofs.GridScope.{number_limited}
use Rattle.completeness.proofs.Searched.{one_of, numbers_made, least_is, replacements_are}
use Rattle.completeness.proofs.BlockSums.{multiple, two_of, one_limited}

-- a form of which the search finds at most 0 by few replacements, less another
pub shown_by : (scope : List Binding) (f g d : Form) (m : ℕ) (o : Option ℤ) → combined f (negsuc 0) g ≡ Some d → is_within_limits d ≡ true → replacements scope (length scope) d ≡ m → m ≤ 4096 →
    least scope (length scope) d ≡ o → is_at_most_zero o ≡ true → at_most scope f g ≡ true
shown_by scope f g d m o made limited count few found under =
    let low : nat_le m 4096 ≡ true = grind (arith, nat_tests, few) in
    let sup_is : sup scope d ≡ o =
    ap (λ (v : Bool). if v && nat_le (replacements scope (length scope) d) 4096 then least scope (length scope) d else None) limited
    ∙ ap (λ (k : ℕ). if nat_le k 4096 then least scope (length scope) d else None) count
    ∙ ap (λ (v : Bool). if v then least scope (length scope) d else None) low ∙ found in
    ap (λ (q : Option Form). is_at_most_zero (option_and_then (λ d. sup scope d) q)) made ∙ ap is_at_most_zero sup_is ∙ under

-- ---- at the latest symbol

module _ (scope : List Binding) (b : ℕ) (c : ℤ) (some : is_zero c ≡ false) (q : Binding) (there : slice_get scope b ≡ Some q) (form rest : Form) (factor : factor_of form.terms b ≡ c)
    (free : (n : ℕ) → b < n → factor_of form.terms n ≡ pos 0) (gone : without form b ≡ rest) where
  abbrev branch : Form → Option ℤ
  branch other = option_and_then (λ next. least scope b next) (replaced form b c other)

  abbrev cost : Form → ℕ
  cost other = suc (option_map_or (λ next. replacements scope b next) (replaced form b c other) 0)

  found_at : (n : ℕ) → b < n → least scope n form ≡ result_at (Some q) c branch
  found_at zero less = absurd (omega (arith, less))
  found_at (suc n) less = of (b == n) refl (λ low. found_at n low)
    where
      of : (v : Bool) → (b == n) ≡ v → (b < n → least scope n form ≡ result_at (Some q) c branch) → least scope (suc n) form ≡ result_at (Some q) c branch
      of true e more =
          let same : b ≡ n = grind (arith, nat_tests, e) in
          subst (λ (h : ℕ). least scope (suc h) form ≡ result_at (Some q) c branch) same
          (ap (λ (v : ℤ). if is_zero v then least scope b form else result_at (slice_get scope b) v (λ other. option_and_then (λ next. least scope b next) (replaced form b v other))) factor
          ∙ ap (λ (v : Bool). if v then least scope b form else result_at (slice_get scope b) c branch) some ∙ ap (λ (r : Option Binding). result_at r c branch) there)
      of false e more =
          let low : b < n = grind (arith, nat_tests, less, e) in
          ap (λ (v : ℤ). if is_zero v then least scope n form else result_at (slice_get scope n) v (λ other. option_and_then (λ next. least scope n next) (replaced form n v other))) (free n low)
          ∙ more low

  counted_at : (n : ℕ) → b < n → replacements scope n form ≡ total_at (Some q) c cost
  counted_at zero less = absurd (omega (arith, less))
  counted_at (suc n) less = of (b == n) refl (λ low. counted_at n low)
    where
      of : (v : Bool) → (b == n) ≡ v → (b < n → replacements scope n form ≡ total_at (Some q) c cost) → replacements scope (suc n) form ≡ total_at (Some q) c cost
      of true e more =
          let same : b ≡ n = grind (arith, nat_tests, e) in
          subst (λ (h : ℕ). replacements scope (suc h) form ≡ total_at (Some q) c cost) same
          (ap (λ (v : ℤ). if is_zero v then replacements scope b form else total_at (slice_get scope b) v (λ other. suc (option_map_or (λ next. replacements scope b next) (replaced form b v
          other) 0)))
          factor
          ∙ ap (λ (v : Bool). if v then replacements scope b form else total_at (slice_get scope b) c cost) some ∙ ap (λ (r : Option Binding). total_at r c cost) there)
      of false e more =
          let low : b < n = grind (arith, nat_tests, less, e) in
          ap (λ (v : ℤ). if is_zero v then replacements scope n form else total_at (slice_get scope n) v (λ other. suc (option_map_or (λ next. replacements scope n next) (replaced form n v other) 0)))
          (free n low)
          ∙ more low

  -- a form that may stand in its place, with what is found of what that makes
  module _ (f first : Form) (made : combined rest c f ≡ Some first) (o : Option ℤ) (found : least scope b first ≡ o) (m : ℕ) (count : replacements scope b first ≡ m) where
    made_here : replaced form b c f ≡ Some first
    made_here = ap (λ (h : Form). combined h c f) gone ∙ made

    branch_is : branch f ≡ o
    branch_is = ap (λ (r : Option Form). option_and_then (λ next. least scope b next) r) made_here ∙ found

    cost_is : cost f ≡ suc m
    cost_is = ap (λ (r : Option Form). suc (option_map_or (λ next. replacements scope b next) r 0)) made_here ∙ ap suc count

    module _ (one : candidates q c ≡ f ∷ []) where
      pub least_top : (n : ℕ) → b < n → least scope n form ≡ o
      least_top n less = found_at n less ∙ ap (λ (fs : List Form). that_counts (any_may_be q c) (map branch fs)) one ∙ branch_is

      pub count_top : (n : ℕ) → b < n → replacements scope n form ≡ suc m
      count_top n less = counted_at n less ∙ ap (λ (fs : List Form). total cost fs) one ∙ (let is = cost_is in omega (arith, is))

    -- and another
    module _ (g second : Form) (made_g : combined rest c g ≡ Some second) (p : Option ℤ) (found_g : least scope b second ≡ p) (k : ℕ) (count_g : replacements scope b second ≡ k)
        (two : candidates q c ≡ f ∷ g ∷ []) where
      other_made : replaced form b c g ≡ Some second
      other_made = ap (λ (h : Form). combined h c g) gone ∙ made_g

      other_branch : branch g ≡ p
      other_branch = ap (λ (r : Option Form). option_and_then (λ next. least scope b next) r) other_made ∙ found_g

      other_cost : cost g ≡ suc k
      other_cost = ap (λ (r : Option Form). suc (option_map_or (λ next. replacements scope b next) r 0)) other_made ∙ ap suc count_g

      pub least_both : (n : ℕ) → b < n → least scope n form ≡ pick (any_may_be q c) o p
      least_both n less =
          found_at n less ∙ ap (λ (fs : List Form). that_counts (any_may_be q c) (map branch fs)) two ∙ (λ j. that_counts (any_may_be q c) (branch_is j ∷ other_branch j ∷ []))

      pub count_both : (n : ℕ) → b < n → replacements scope n form ≡ suc m + suc k
      count_both n less =
          counted_at n less ∙ ap (λ (fs : List Form). total cost fs) two ∙ (let one = cost_is in let more = other_cost in omega (arith, one, more))

-- ---- the latest symbol of forms with one symbol and with two

module _ (z c : ℤ) (i : ℕ) where
  pub one_factor : factor_of (one_of z c i).terms i ≡ c
  one_factor = (let sum : c +ℤ pos 0 ≡ c = omega (arith, ints) in ap (λ (v : Bool). (if v then c else pos 0) +ℤ pos 0) (eq_refl i) ∙ sum)

  pub one_free : (n : ℕ) → i < n → factor_of (one_of z c i).terms n ≡ pos 0
  one_free n less = (let differ : (i == n) ≡ false = grind (arith, nat_tests, less) in ap (λ (v : Bool). (if v then c else pos 0) +ℤ pos 0) differ)

  pub one_gone : without (one_of z c i) i ≡ number z
  one_gone = ap (λ (v : Bool). record { constant = z; terms = if not v then multiple i c ∷ [] else [] }) (eq_refl i)

module _ (z c : ℤ) (a : ℕ) (d : ℤ) (b : ℕ) (less : a < b) where
  differ : (a == b) ≡ false
  differ = grind (arith, nat_tests, less)

  pub two_factor : factor_of (two_of z c a d b).terms b ≡ d
  two_factor =
      let here = eq_refl b in
      let sum : pos 0 +ℤ (d +ℤ pos 0) ≡ d = omega (arith, ints) in
      (λ j. (if differ j then c else pos 0) +ℤ ((if here j then d else pos 0) +ℤ pos 0)) ∙ sum

  pub two_free : (n : ℕ) → b < n → factor_of (two_of z c a d b).terms n ≡ pos 0
  two_free n above =
      let one : (a == n) ≡ false = grind (arith, nat_tests, less, above) in
      let two : (b == n) ≡ false = grind (arith, nat_tests, above) in
      λ j. (if one j then c else pos 0) +ℤ ((if two j then d else pos 0) +ℤ pos 0)

  pub two_gone : without (two_of z c a d b) b ≡ one_of z c a
  two_gone =
      let here = eq_refl b in
      λ j. record { constant = z; terms = if not (differ j) then multiple a c ∷ (if not (here j) then multiple b d ∷ [] else []) else (if not (here j) then multiple b d ∷ [] else []) }

-- ---- two symbols of which each has one number that may stand in its place

-- a number and multiples of two symbols, in the symbols' order
abbrev pub sum_of : ℤ → ℕ → ℤ → ℕ → ℤ → Form
sum_of z a c b d = record { constant = z; terms = if nat_lt a b then multiple a c ∷ multiple b d ∷ [] else multiple b d ∷ multiple a c ∷ [] }

pub sum_first : (z : ℤ) (a : ℕ) (c : ℤ) (b : ℕ) (d : ℤ) → a < b → sum_of z a c b d ≡ two_of z c a d b
sum_first z a c b d less =
    let behind : nat_lt a b ≡ true = grind (arith, nat_tests, less) in
    λ j. record { constant = z; terms = if behind j then multiple a c ∷ multiple b d ∷ [] else multiple b d ∷ multiple a c ∷ [] }

pub sum_second : (z : ℤ) (a : ℕ) (c : ℤ) (b : ℕ) (d : ℤ) → b < a → sum_of z a c b d ≡ two_of z d b c a
sum_second z a c b d less =
    let behind : nat_lt a b ≡ false = grind (arith, nat_tests, less) in
    λ j. record { constant = z; terms = if behind j then multiple a c ∷ multiple b d ∷ [] else multiple b d ∷ multiple a c ∷ [] }

sum_near : (p q : ℤ) (m n o : ℕ) → unsigned_abs p ≤ m → unsigned_abs q ≤ n → m + n ≤ o → unsigned_abs (p +ℤ q) ≤ o
sum_near p q m n o h g le = omega (arith, ints, h, g, le)

module _ (scope : List Binding) (p q : Binding) where
  -- in the symbols' order
  two_found : (a b : ℕ) → a < b → slice_get scope a ≡ Some p → slice_get scope b ≡ Some q → (z c d e f : ℤ) → is_zero c ≡ false → is_zero d ≡ false → candidates p c ≡ number e ∷ [] →
      candidates q d ≡ number f ∷ [] → unsigned_abs z ≤ 2 ^ 38 → unsigned_abs c ≤ 2 ^ 20 → unsigned_abs d ≤ 2 ^ 20 → unsigned_abs e ≤ 2 ^ 36 → unsigned_abs f ≤ 2 ^ 36 →
      unsigned_abs (c *ℤ e) ≤ 2 ^ 38 → unsigned_abs (d *ℤ f) ≤ 2 ^ 38 → (n : ℕ) → b < n →
      (least scope n (two_of z c a d b) ≡ Some ((z +ℤ d *ℤ f) +ℤ c *ℤ e)) × (replacements scope n (two_of z c a d b) ≡ 2)
  two_found a b less there_a there_b z c d e f some_c some_d one_a one_b near c_few d_few e_near f_near ce df n above =
      let mid : ℤ = z +ℤ d *ℤ f in
      let mid_near : unsigned_abs mid ≤ 2 ^ 39 = sum_near z (d *ℤ f) (2 ^ 38) (2 ^ 38) (2 ^ 39) near df (omega arith) in
      let r : ℤ = mid +ℤ c *ℤ e in
      let r_near : unsigned_abs r ≤ 2 ^ 40 = sum_near mid (c *ℤ e) (2 ^ 39) (2 ^ 38) (2 ^ 40) mid_near ce (omega arith) in
      let made_b : combined (one_of z c a) d (number f) ≡ Some (one_of mid c a) =
      combined-made (one_of z c a) (number f) d (one_limited z c a (omega (arith, near)) c_few) (number_limited f (omega (arith, f_near))) (one_limited mid c a (omega (arith, mid_near)) c_few) in
      let made_a = numbers_made mid c e (omega (arith, mid_near)) (omega (arith, e_near)) r_near in
      let found = least_is scope a mid c r some_c p there_a (number e) one_a made_a b less in
      let count = replacements_are scope a mid c r some_c p there_a (number e) one_a made_a b less in
      let form : Form = two_of z c a d b in (
        least_top scope b d some_d q there_b form (one_of z c a) (two_factor z c a d b less) (two_free z c a d b less) (two_gone z c a d b less) (number f) (one_of mid c a) made_b (Some r) found
            1 count one_b n above,
        count_top scope b d some_d q there_b form (one_of z c a) (two_factor z c a d b less) (two_free z c a d b less) (two_gone z c a d b less) (number f) (one_of mid c a) made_b (Some r) found
            1 count one_b n above,
      )

-- in either order
pub both_found : (scope : List Binding) (p q : Binding) (a b : ℕ) → (a == b) ≡ false → slice_get scope a ≡ Some p → slice_get scope b ≡ Some q → (z c d e f : ℤ) → is_zero c ≡ false →
    is_zero d ≡ false →
    candidates p c ≡ number e ∷ [] → candidates q d ≡ number f ∷ [] → unsigned_abs z ≤ 2 ^ 38 → unsigned_abs c ≤ 2 ^ 20 → unsigned_abs d ≤ 2 ^ 20 → unsigned_abs e ≤ 2 ^ 36 →
    unsigned_abs f ≤ 2 ^ 36 → unsigned_abs (c *ℤ e) ≤ 2 ^ 38 → unsigned_abs (d *ℤ f) ≤ 2 ^ 38 → (n : ℕ) → a < n → b < n →
    (least scope n (sum_of z a c b d) ≡ Some ((z +ℤ d *ℤ f) +ℤ c *ℤ e)) × (replacements scope n (sum_of z a c b d) ≡ 2)
both_found scope p q a b differ there_a there_b z c d e f some_c some_d one_a one_b near c_few d_few e_near f_near ce df n above_a above_b = of (nat_lt a b) refl
  where
    swapped : (u v w : ℤ) → (u +ℤ v) +ℤ w ≡ (u +ℤ w) +ℤ v
    swapped u v w = omega (arith, ints)

    of : (v : Bool) → nat_lt a b ≡ v → (least scope n (sum_of z a c b d) ≡ Some ((z +ℤ d *ℤ f) +ℤ c *ℤ e)) × (replacements scope n (sum_of z a c b d) ≡ 2)
    of true e' =
        let less : a < b = grind (arith, nat_tests, e') in
        let is = sum_first z a c b d less in
        let found = two_found scope p q a b less there_a there_b z c d e f some_c some_d one_a one_b near c_few d_few e_near f_near ce df n above_b in
        (ap (least scope n) is ∙ found.0, ap (replacements scope n) is ∙ found.1)
    of false e' =
        let less : b < a = grind (arith, nat_tests, e', differ) in
        let is = sum_second z a c b d less in
        let found = two_found scope q p b a less there_b there_a z d c f e some_d some_c one_b one_a near d_few c_few f_near e_near df ce n above_a in
        (ap (least scope n) is ∙ found.0 ∙ ap (λ (v : ℤ). Some v) (swapped z (c *ℤ e) (d *ℤ f)), ap (replacements scope n) is ∙ found.1)
