-- The search takes the latest symbol of a form first: what it finds then, where one form or two may stand in that symbol's place.
use Rattle.std.proofs.Common.{◌≡◌, ℕ, zero, suc, ◌+◌, ◌-◌, ◌^◌, ◌<◌, ◌≤◌, Bool, true, false, ◌&&◌, not, List, [], ◌∷◌, length, map, Option, Some, None, refl, ap, ◌∙◌, subst, arith}
use Rattle.std.specs.Prelude.{ℤ, pos, ◌+ℤ◌, ◌*ℤ◌, nat_lt, nat_le, ◌==◌, if◌then◌else◌, slice_get, option_and_then}
use Rattle.std.specs.Option.{option_map_or}
use Rattle.std.specs.Int.RustNames.{unsigned_abs}
use Rattle.std.proofs.lemmas.Bool.Decides.{nat_tests}
use Rattle.std.proofs.lemmas.Int.{ints}
use Rattle.lin.specs.Forms.{Form, number, is_zero, factor_of, without, is_within_limits, combined}
use Rattle.lin.specs.Search.{candidates, any_may_be, that_counts, replaced, result_at, total, total_at, least, replacements, sup, pick}
use Rattle.lin.specs.declared.scope.Binding.{Binding}
use Rattle.lin.proofs.Limits.{combined-made}
use Rattle.soundness.proofs.Refines.{eq_refl, eq_true}
use Rattle.completeness.proofs.GridScope.{number_limited}
use Rattle.completeness.proofs.Searched.{one_of, numbers_made}
use Rattle.completeness.proofs.BlockSums.{multiple, two_of, least_two, replacements_two, one_limited, two_limited}

-- ---- the latest symbol

module _ (scope : List Binding) (g : Form) (b : ℕ) (d : ℤ) (some : is_zero d ≡ false) (counts : factor_of g.terms b ≡ d) (above : (n : ℕ) → b < n → factor_of g.terms n ≡ pos 0)
    (q : Binding) (there : slice_get scope b ≡ Some q) where
  abbrev branch : Form → Option ℤ
  branch other = option_and_then (λ next. least scope b next) (replaced g b d other)

  abbrev cost : Form → ℕ
  cost other = suc (option_map_or (λ next. replacements scope b next) (replaced g b d other) 0)

  least_from : (n : ℕ) → b < n → least scope n g ≡ result_at (Some q) d branch
  least_from zero less = absurd (omega (arith, less))
  least_from (suc n) less = of (b == n) refl (λ low. least_from n low)
    where
      of : (v : Bool) → (b == n) ≡ v → (b < n → least scope n g ≡ result_at (Some q) d branch) → least scope (suc n) g ≡ result_at (Some q) d branch
      of true e rest =
          subst (λ (k : ℕ). least scope (suc k) g ≡ result_at (Some q) d branch) (eq_true b n e)
          (ap (λ (v : ℤ). if is_zero v then least scope b g else result_at (slice_get scope b) v (λ other. option_and_then (λ next. least scope b next) (replaced g b v other))) counts
          ∙ ap (λ (v : Bool). if v then least scope b g else result_at (slice_get scope b) d branch) some ∙ ap (λ (o : Option Binding). result_at o d branch) there)
      of false e rest =
          let low : b < n = grind (arith, nat_tests, less, e) in
          ap (λ (v : ℤ). if is_zero v then least scope n g else result_at (slice_get scope n) v (λ other. option_and_then (λ next. least scope n next) (replaced g n v other))) (above n low) ∙ rest low

  count_from : (n : ℕ) → b < n → replacements scope n g ≡ total cost (candidates q d)
  count_from zero less = absurd (omega (arith, less))
  count_from (suc n) less = of (b == n) refl (λ low. count_from n low)
    where
      of : (v : Bool) → (b == n) ≡ v → (b < n → replacements scope n g ≡ total cost (candidates q d)) → replacements scope (suc n) g ≡ total cost (candidates q d)
      of true e rest =
          subst (λ (k : ℕ). replacements scope (suc k) g ≡ total cost (candidates q d)) (eq_true b n e)
          (ap (λ (v : ℤ). if is_zero v then replacements scope b g else total_at (slice_get scope b) v
          (λ other. suc (option_map_or (λ next. replacements scope b next) (replaced g b v other) 0))) counts
          ∙ ap (λ (v : Bool). if v then replacements scope b g else total_at (slice_get scope b) d cost) some ∙ ap (λ (o : Option Binding). total_at o d cost) there)
      of false e rest =
          let low : b < n = grind (arith, nat_tests, less, e) in
          ap (λ (v : ℤ). if is_zero v then replacements scope n g else total_at (slice_get scope n) v
          (λ other. suc (option_map_or (λ next. replacements scope n next) (replaced g n v other) 0))) (above n low) ∙ rest low

  -- one form may stand in its place
  module _ (f first : Form) (one : candidates q d ≡ f ∷ []) (made : replaced g b d f ≡ Some first) where
    pub least_once : (n : ℕ) → b < n → least scope n g ≡ least scope b first
    least_once n less =
        least_from n less ∙ ap (λ (fs : List Form). that_counts (any_may_be q d) (map branch fs)) one ∙ ap (λ (o : Option Form). option_and_then (λ next. least scope b next) o) made

    pub count_once : (n : ℕ) → b < n → replacements scope n g ≡ suc (replacements scope b first)
    count_once n less =
        let here = ap (λ (o : Option Form). suc (option_map_or (λ next. replacements scope b next) o 0)) made in
        count_from n less ∙ ap (λ (fs : List Form). total cost fs) one ∙ omega (arith, here)

  -- or two
  module _ (f h first second : Form) (two : candidates q d ≡ f ∷ h ∷ []) (made_f : replaced g b d f ≡ Some first) (made_h : replaced g b d h ≡ Some second) where
    pub least_twice : (n : ℕ) → b < n → least scope n g ≡ pick (any_may_be q d) (least scope b first) (least scope b second)
    least_twice n less =
        let left = ap (λ (o : Option Form). option_and_then (λ next. least scope b next) o) made_f in
        let right = ap (λ (o : Option Form). option_and_then (λ next. least scope b next) o) made_h in
        least_from n less ∙ ap (λ (fs : List Form). that_counts (any_may_be q d) (map branch fs)) two ∙ (λ j. pick (any_may_be q d) (left j) (right j))

    pub count_twice : (n : ℕ) → b < n → replacements scope n g ≡ suc (replacements scope b first) + suc (replacements scope b second)
    count_twice n less =
        let left = ap (λ (o : Option Form). suc (option_map_or (λ next. replacements scope b next) o 0)) made_f in
        let right = ap (λ (o : Option Form). suc (option_map_or (λ next. replacements scope b next) o 0)) made_h in
        count_from n less ∙ ap (λ (fs : List Form). total cost fs) two ∙ omega (arith, left, right)

pub sup_is : (scope : List Binding) (g : Form) (m : ℕ) → is_within_limits g ≡ true → replacements scope (length scope) g ≡ m → m ≤ 4096 → sup scope g ≡ least scope (length scope) g
sup_is scope g m limited count few =
    let low : nat_le m 4096 ≡ true = grind (arith, nat_tests, few) in
    ap (λ (v : Bool). if v && nat_le (replacements scope (length scope) g) 4096 then least scope (length scope) g else None) limited
    ∙ ap (λ (k : ℕ). if nat_le k 4096 then least scope (length scope) g else None) count ∙ ap (λ (v : Bool). if v then least scope (length scope) g else None) low

-- ---- forms of one and of two symbols

module _ (z c : ℤ) (i : ℕ) where
  pub one_counts : factor_of (one_of z c i).terms i ≡ c
  one_counts = (let sum : c +ℤ pos 0 ≡ c = omega (arith, ints) in ap (λ (v : Bool). (if v then c else pos 0) +ℤ pos 0) (eq_refl i) ∙ sum)

  pub one_above : (n : ℕ) → i < n → factor_of (one_of z c i).terms n ≡ pos 0
  one_above n less = (let away : (i == n) ≡ false = grind (arith, nat_tests, less) in ap (λ (v : Bool). (if v then c else pos 0) +ℤ pos 0) away)

  pub one_gone : without (one_of z c i) i ≡ number z
  one_gone = ap (λ (v : Bool). record { constant = z; terms = if not v then multiple i c ∷ [] else [] }) (eq_refl i)

module _ (z c : ℤ) (a : ℕ) (d : ℤ) (b : ℕ) (less : a < b) where
  apart : (a == b) ≡ false
  apart = grind (arith, nat_tests, less)

  pub two_counts : factor_of (two_of z c a d b).terms b ≡ d
  two_counts =
      let here = eq_refl b in
      let sum : pos 0 +ℤ (d +ℤ pos 0) ≡ d = omega (arith, ints) in
      (λ j. (if apart j then c else pos 0) +ℤ ((if here j then d else pos 0) +ℤ pos 0)) ∙ sum

  pub two_above : (n : ℕ) → b < n → factor_of (two_of z c a d b).terms n ≡ pos 0
  two_above n above =
      let one : (a == n) ≡ false = grind (arith, nat_tests, less, above) in
      let two : (b == n) ≡ false = grind (arith, nat_tests, above) in
      λ j. (if one j then c else pos 0) +ℤ ((if two j then d else pos 0) +ℤ pos 0)

  pub two_gone : without (two_of z c a d b) b ≡ one_of z c a
  two_gone =
      let here = eq_refl b in
      λ j. record { constant = z; terms = if not (apart j) then multiple a c ∷ (if not (here j) then multiple b d ∷ [] else []) else (if not (here j) then multiple b d ∷ [] else []) }

-- ---- two loops of numbers, in either order

module _ (scope : List Binding) (a b : ℕ) (differ : (a == b) ≡ false) (z c d : ℤ) (some_c : is_zero c ≡ false) (some_d : is_zero d ≡ false) (p q : Binding) (there_a : slice_get scope a ≡ Some p)
    (there_b : slice_get scope b ≡ Some q) (x y : ℤ) (one_a : candidates p c ≡ number x ∷ []) (one_b : candidates q d ≡ number y ∷ []) (near : unsigned_abs z ≤ 2 ^ 38) (c_near :
    unsigned_abs c ≤ 2 ^ 20)
    (d_near : unsigned_abs d ≤ 2 ^ 20) (x_near : unsigned_abs x ≤ 2 ^ 36) (y_near : unsigned_abs y ≤ 2 ^ 36) (cx_near : unsigned_abs (c *ℤ x) ≤ 2 ^ 37) (dy_near : unsigned_abs (d *ℤ y) ≤ 2 ^ 37) where
  sum_near : (u v : ℤ) (m n k : ℕ) → unsigned_abs u ≤ m → unsigned_abs v ≤ n → m + n ≤ k → unsigned_abs (u +ℤ v) ≤ k
  sum_near u v m n k h g le = omega (arith, ints, h, g, le)

  abbrev pub both : Form
  both = record { constant = z; terms = if nat_lt a b then multiple a c ∷ multiple b d ∷ [] else multiple b d ∷ multiple a c ∷ [] }

  abbrev pub both_come : ℤ
  both_come = (z +ℤ c *ℤ x) +ℤ d *ℤ y

  turned : (u v w : ℤ) → ((u +ℤ w) +ℤ v) ≡ (u +ℤ v) +ℤ w
  turned u v w = omega (arith, ints)

  cx_sum : unsigned_abs (z +ℤ c *ℤ x) ≤ 2 ^ 39
  cx_sum = sum_near z (c *ℤ x) (2 ^ 38) (2 ^ 37) (2 ^ 39) near cx_near (omega arith)

  dy_sum : unsigned_abs (z +ℤ d *ℤ y) ≤ 2 ^ 39
  dy_sum = sum_near z (d *ℤ y) (2 ^ 38) (2 ^ 37) (2 ^ 39) near dy_near (omega arith)

  -- the second is the later one
  later_b : a < b → (k : ℕ) → (least scope (suc (b + k)) (two_of z c a d b) ≡ Some both_come) × (replacements scope (suc (b + k)) (two_of z c a d b) ≡ 2)
  later_b less k =
      let mid : ℤ = z +ℤ d *ℤ y in
      let r : ℤ = mid +ℤ c *ℤ x in
      let r_near : unsigned_abs r ≤ 2 ^ 40 = sum_near mid (c *ℤ x) (2 ^ 39) (2 ^ 37) (2 ^ 40) dy_sum cx_near (omega arith) in
      let made_b : combined (one_of z c a) d (number y) ≡ Some (one_of mid c a) =
      combined-made (one_of z c a) (number y) d (one_limited z c a (omega (arith, near)) c_near) (number_limited y (omega (arith, y_near))) (one_limited mid c a (omega (arith, dy_sum)) c_near) in
      let made_a = numbers_made mid c x (omega (arith, dy_sum)) (omega (arith, x_near)) r_near in (
        least_two scope a b less z c d some_c some_d p q there_a there_b (number x) (number y) one_a one_b mid r made_b made_a k ∙ ap (λ (v : ℤ). Some v) (turned z (c *ℤ x) (d *ℤ y)),
        replacements_two scope a b less z c d some_c some_d p q there_a there_b (number x) (number y) one_a one_b mid r made_b made_a k,
      )

  -- or the first
  later_a : b < a → (k : ℕ) → (least scope (suc (a + k)) (two_of z d b c a) ≡ Some both_come) × (replacements scope (suc (a + k)) (two_of z d b c a) ≡ 2)
  later_a less k =
      let mid : ℤ = z +ℤ c *ℤ x in
      let r_near : unsigned_abs both_come ≤ 2 ^ 40 = sum_near mid (d *ℤ y) (2 ^ 39) (2 ^ 37) (2 ^ 40) cx_sum dy_near (omega arith) in
      let made_b : combined (one_of z d b) c (number x) ≡ Some (one_of mid d b) =
      combined-made (one_of z d b) (number x) c (one_limited z d b (omega (arith, near)) d_near) (number_limited x (omega (arith, x_near))) (one_limited mid d b (omega (arith, cx_sum)) d_near) in
      let made_a = numbers_made mid d y (omega (arith, cx_sum)) (omega (arith, y_near)) r_near in (
        least_two scope b a less z d c some_d some_c q p there_b there_a (number y) (number x) one_b one_a mid both_come made_b made_a k,
        replacements_two scope b a less z d c some_d some_c q p there_b there_a (number y) (number x) one_b one_a mid both_come made_b made_a k,
      )

  pub both_found : (n : ℕ) → a < n → b < n → (least scope n both ≡ Some both_come) × (replacements scope n both ≡ 2)
  both_found n in_a in_b = of (nat_lt a b) refl
    where
      Found : Bool → Type 0
      Found v =
          (least scope n (record { constant = z; terms = if v then multiple a c ∷ multiple b d ∷ [] else multiple b d ∷ multiple a c ∷ [] }) ≡ Some both_come)
          × (replacements scope n (record { constant = z; terms = if v then multiple a c ∷ multiple b d ∷ [] else multiple b d ∷ multiple a c ∷ [] }) ≡ 2)

      of : (v : Bool) → nat_lt a b ≡ v → Found v
      of true e =
          let less : a < b = grind (arith, nat_tests, e) in
          let k = n - suc b in
          let long : suc (b + k) ≡ n = omega (arith, in_b) in
          subst (λ (m : ℕ). (least scope m (two_of z c a d b) ≡ Some both_come) × (replacements scope m (two_of z c a d b) ≡ 2)) long (later_b less k)
      of false e =
          let less : b < a = grind (arith, nat_tests, e, differ) in
          let k = n - suc a in
          let long : suc (a + k) ≡ n = omega (arith, in_a) in
          subst (λ (m : ℕ). (least scope m (two_of z d b c a) ≡ Some both_come) × (replacements scope m (two_of z d b c a) ≡ 2)) long (later_a less k)

-- its limits
pub both_limited : (z : ℤ) (a b : ℕ) (c d : ℤ) → unsigned_abs z ≤ 2 ^ 40 → unsigned_abs c ≤ 2 ^ 20 → unsigned_abs d ≤ 2 ^ 20 →
    is_within_limits (record { constant = z; terms = if nat_lt a b then multiple a c ∷ multiple b d ∷ [] else multiple b d ∷ multiple a c ∷ [] }) ≡ true
both_limited z a b c d near small other = of (nat_lt a b)
  where
    of : (v : Bool) → is_within_limits (record { constant = z; terms = if v then multiple a c ∷ multiple b d ∷ [] else multiple b d ∷ multiple a c ∷ [] }) ≡ true
    of true = two_limited z c a d b near small other
    of false = two_limited z d b c a near other small
