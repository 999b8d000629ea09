-- At a nest's store the search finds that the coordinates of split loops lie in their places, also where a let stands behind a guard.
use Rattle.std.proofs.Common.{◌≡◌, ℕ, zero, suc, ◌+◌, ◌-◌, ◌*◌, ◌<◌, ◌≤◌, ◌^◌, Bool, true, false, ◌&&◌, ◌||◌, not, List, [], ◌∷◌, ◌++◌, length, Some, refl, sym, ap, ◌∙◌, subst, arith}
use Rattle.std.specs.Prelude.{ℤ, pos, negsuc, ◌+ℤ◌, ◌-ℤ◌, ◌*ℤ◌, ◌≤ℤ◌, nat_lt, ◌==◌, if◌then◌else◌, min, slice_get}
use Rattle.std.specs.Int.RustNames.{unsigned_abs}
use Rattle.std.specs.List.{list_all}
use Rattle.std.proofs.Math.Nat.{mul-suc}
use Rattle.std.proofs.lemmas.Bool.Decides.{nat_tests}
use Rattle.std.proofs.lemmas.Int.{ints}
use Rattle.lin.specs.Forms.{Form, number, in_front, plus_term, plus_multiple, is_within_limits, combined}
use Rattle.lin.specs.Search.{at_most}
use Rattle.lin.specs.declared.scope.Binding.{Binding}
use Rattle.lin.specs.declared.scope.Binding.TheVariants.{Loop as Bound, LetMin}
use Rattle.lin.specs.declared.span.Span1.{Span1}
use Rattle.lin.proofs.Limits.{combined-made}
use Rattle.plan.specs.declared.stmt.Places.TheVariants.{From}
use Rattle.soundness.specs.Obligations.{Binder, Rules, anything, exactly}
use Rattle.soundness.specs.Shown.{raised, is_seated}
use Rattle.rules.specs.Bounding.Scopes.{most_symbols, limited, binding_of, symbol_count, scope_of, shown_at_most}
use Rattle.sched.specs.declared.nest.Turning.{Turning}
use Rattle.sched.specs.Standing.{alone}
use Rattle.sched.specs.Skeleton.{span}
use Rattle.tails.specs.Steps.{along}
use Rattle.tails.specs.Apart.{is_steady}
use Rattle.completeness.proofs.GridScope.{number_limited}
use Rattle.completeness.proofs.SelfBounds.{form_self}
use Rattle.completeness.proofs.PlainBounds.{loop_above, loop_below}
use Rattle.completeness.proofs.PlainTests.{at_place, scope_long, at_length}
use Rattle.completeness.proofs.Searched.{one_of, numbers_made}
use Rattle.completeness.proofs.BlockSums.{multiple, pair, two_of, least_two, replacements_two, one_limited, two_limited}
use Rattle.completeness.proofs.GuardSums.{left_over, limited_below, kept_below}
use Rattle.std.proofs.Common.{append_assoc}
use Rattle.std.specs.List.{list_any}
use Rattle.lin.specs.Search.{least, replacements}
use Rattle.soundness.proofs.Refines.{eq_refl}
use Rattle.tails.specs.Steps.{binds}
use Rattle.completeness.proofs.BlockBounds.{two_above, two_below, block_above, block_below}
use Rattle.completeness.proofs.SplitTests.{item_of}
use Rattle.completeness.proofs.LetSums.{let_over, let_under}
use Rattle.completeness.proofs.TailSteps.{Line, Loop, Block, Pair, line_binders}
use Rattle.completeness.proofs.TailLines.{always, lines_of, line_along}

-- ---- sums of numbers

less_itself : (z : ℤ) → unsigned_abs (z +ℤ negsuc 0 *ℤ z) ≤ 0
less_itself z = omega (arith, ints)

sum_near : (a b : ℤ) (m n k : ℕ) → unsigned_abs a ≤ m → unsigned_abs b ≤ n → m + n ≤ k → unsigned_abs (a +ℤ b) ≤ k
sum_near a b m n k h g le = omega (arith, ints, h, g, le)

-- ---- a let behind a guard, over two loops from 0 on

module _ (scope : List Binding) (a b p : ℕ) (less : a < b) (behind : b < p) (inside : p < length scope) (k m : ℕ) (few : suc k ≤ 1024) (more : suc m ≤ 1024) (x y : Span1)
    (there_a : slice_get scope a ≡ Some (Bound x)) (there_b : slice_get scope b ≡ Some (Bound y)) (low last : ℤ) (near : unsigned_abs low ≤ 2 ^ 36) (last_near : unsigned_abs last ≤ 2 ^ 36)
    (there_p : slice_get scope p ≡ Some (LetMin (two_of low (pos (suc k)) a (pos (suc m)) b ∷ number last ∷ []))) where
  abbrev c : ℤ
  c = pos (suc k)

  abbrev d : ℤ
  d = pos (suc m)

  abbrev rest : ℕ
  rest = p - suc b

  long : p ≡ suc (b + rest)
  long = omega (arith, behind)

  first_before : nat_lt a b ≡ true
  first_before = grind (arith, nat_tests, less)

  -- it is at least the number that both are at least
  pub pair_over : x.lower ≡ number (pos 0) ∷ [] → y.lower ≡ number (pos 0) ∷ [] → low ≤ℤ last → at_most scope (number low) (one_of (pos 0) (pos 1) p) ≡ true
  pair_over first second le =
      let z : ℤ = low +ℤ negsuc 0 *ℤ low in
      let none = less_itself low in
      let z_near : unsigned_abs z ≤ 2 ^ 40 = omega (arith, none) in
      let neg_a : negsuc 0 *ℤ pos (suc k) ≡ negsuc k = omega (arith, ints) in
      let neg_b : negsuc 0 *ℤ pos (suc m) ≡ negsuc m = omega (arith, ints) in
      let is : plus_multiple (number low) (negsuc 0) (two_of low c a d b) ≡ two_of z (negsuc k) a (negsuc m) b =
      (λ j. record { constant = z; terms = plus_term (in_front (multiple a (neg_a j)) []) (multiple b (neg_b j)) })
      ∙ (λ j. record {
        constant = z;
        terms = if first_before j then multiple a (negsuc k) ∷ multiple b (negsuc m) ∷ []
            else (if a == b then in_front (record { symbol = b; factor = negsuc k +ℤ negsuc m }) [] else in_front (multiple b (negsuc m)) (multiple a (negsuc k) ∷ []));
      }) in
      let limited_sum = two_limited z (negsuc k) a (negsuc m) b z_near (omega (arith, few)) (omega (arith, more)) in
      let made : combined (number low) (negsuc 0) (two_of low c a d b) ≡ Some (two_of z (negsuc k) a (negsuc m) b) =
      combined-made (number low) (two_of low c a d b) (negsuc 0) (number_limited low (omega (arith, near))) (two_limited low c a d b (omega (arith, near)) (omega (arith, few)) (omega (arith, more)))
      (ap is_within_limits is ∙ limited_sum) ∙ ap (λ (f : Form). Some f) is in
      let mid : ℤ = z +ℤ negsuc m *ℤ pos 0 in
      let mid_is : mid ≡ z = omega (arith, ints) in
      let mid_near : unsigned_abs mid ≤ 2 ^ 40 = subst (λ (w : ℤ). unsigned_abs w ≤ 2 ^ 40) (sym mid_is) z_near in
      let r : ℤ = mid +ℤ negsuc k *ℤ pos 0 in
      let r_is : r ≡ pos 0 = omega (arith, ints) in
      let zero_near : unsigned_abs (pos 0) ≤ 2 ^ 40 = omega arith in
      let made_b : combined (one_of z (negsuc k) a) (negsuc m) (number (pos 0)) ≡ Some (one_of mid (negsuc k) a) =
      combined-made (one_of z (negsuc k) a) (number (pos 0)) (negsuc m) (one_limited z (negsuc k) a z_near (omega (arith, few))) (number_limited (pos 0) zero_near)
      (one_limited mid (negsuc k) a mid_near (omega (arith, few))) in
      let made_a = numbers_made mid (negsuc k) (pos 0) mid_near zero_near (subst (λ (w : ℤ). unsigned_abs w ≤ 2 ^ 40) (sym r_is) zero_near) in
      let comes = least_two scope a b less z (negsuc k) (negsuc m) refl refl (Bound x) (Bound y) there_a there_b (number (pos 0)) (number (pos 0)) first second mid r made_b made_a rest in
      let counts = replacements_two scope a b less z (negsuc k) (negsuc m) refl refl (Bound x) (Bound y) there_a there_b (number (pos 0)) (number (pos 0)) first second mid r made_b made_a rest in
      let at_p : least scope p (two_of z (negsuc k) a (negsuc m) b) ≡ Some r = ap (λ (q : ℕ). least scope q (two_of z (negsuc k) a (negsuc m) b)) long ∙ comes in
      let count_p : replacements scope p (two_of z (negsuc k) a (negsuc m) b) ≡ 2 = ap (λ (q : ℕ). replacements scope q (two_of z (negsuc k) a (negsuc m) b)) long ∙ counts in
      let_over scope p inside (two_of low c a d b) last last_near there_p low (omega (arith, near)) le (two_of z (negsuc k) a (negsuc m) b) r made at_p (omega (arith, ints, r_is)) 2 count_p
      (omega arith)

  -- and at most the last number
  pub pair_under : (e f : ℤ) → x.upper ≡ number e ∷ [] → y.upper ≡ number f ∷ [] → unsigned_abs e ≤ 2 ^ 36 → unsigned_abs f ≤ 2 ^ 36 → unsigned_abs (c *ℤ e) ≤ 2 ^ 37 →
      unsigned_abs (d *ℤ f) ≤ 2 ^ 37 → at_most scope (one_of (pos 0) (pos 1) p) (number last) ≡ true
  pair_under e f first second e_near f_near ce_near df_near =
      let y0 : ℤ = pos 0 +ℤ negsuc 0 *ℤ last in
      let z : ℤ = y0 +ℤ pos 1 *ℤ low in
      let y0_near : unsigned_abs y0 ≤ 2 ^ 36 = turned last last_near in
      let z_near : unsigned_abs z ≤ 2 ^ 38 = both_near y0 low y0_near near in
      let one_a : pos 1 *ℤ pos (suc k) ≡ pos (suc k) = omega (arith, ints) in
      let one_b : pos 1 *ℤ pos (suc m) ≡ pos (suc m) = omega (arith, ints) in
      let is : plus_multiple (number y0) (pos 1) (two_of low c a d b) ≡ two_of z c a d b =
      (λ j. record { constant = z; terms = plus_term (in_front (multiple a (one_a j)) []) (multiple b (one_b j)) })
      ∙ (λ j. record {
        constant = z;
        terms = if first_before j then multiple a c ∷ multiple b d ∷ []
            else (if a == b then in_front (record { symbol = b; factor = c +ℤ d }) [] else in_front (multiple b d) (multiple a c ∷ []));
      }) in
      let limited_sum = two_limited z c a d b (omega (arith, z_near)) (omega (arith, few)) (omega (arith, more)) in
      let made : combined (number y0) (pos 1) (two_of low c a d b) ≡ Some (two_of z c a d b) =
      combined-made (number y0) (two_of low c a d b) (pos 1) (number_limited y0 (omega (arith, y0_near))) (two_limited low c a d b (omega (arith, near)) (omega (arith, few)) (omega (arith, more)))
      (ap is_within_limits is ∙ limited_sum) ∙ ap (λ (g : Form). Some g) is in
      let mid : ℤ = z +ℤ d *ℤ f in
      let mid_near : unsigned_abs mid ≤ 2 ^ 39 = sum_near z (d *ℤ f) (2 ^ 38) (2 ^ 37) (2 ^ 39) z_near df_near (omega arith) in
      let r : ℤ = mid +ℤ c *ℤ e in
      let r_near : unsigned_abs r ≤ 2 ^ 40 = sum_near mid (c *ℤ e) (2 ^ 39) (2 ^ 37) (2 ^ 40) mid_near ce_near (omega arith) in
      let made_b : combined (one_of z c a) d (number f) ≡ Some (one_of mid c a) =
      combined-made (one_of z c a) (number f) d (one_limited z c a (omega (arith, z_near)) (omega (arith, few))) (number_limited f (omega (arith, f_near)))
      (one_limited mid c a (omega (arith, mid_near)) (omega (arith, few))) in
      let made_a = numbers_made mid c e (omega (arith, mid_near)) (omega (arith, e_near)) r_near in
      let counts = replacements_two scope a b less z c d refl refl (Bound x) (Bound y) there_a there_b (number e) (number f) first second mid r made_b made_a rest in
      let count_p : replacements scope p (two_of z c a d b) ≡ 2 = ap (λ (q : ℕ). replacements scope q (two_of z c a d b)) long ∙ counts in
      let_under scope p inside (two_of low c a d b) last last_near there_p last (omega (arith, last_near)) (itself last) (two_of z c a d b) made 2 count_p (omega arith)
    where
      itself : (z : ℤ) → z ≤ℤ z
      itself z = omega (arith, ints)

      turned : (z : ℤ) → unsigned_abs z ≤ 2 ^ 36 → unsigned_abs (pos 0 +ℤ negsuc 0 *ℤ z) ≤ 2 ^ 36
      turned z h = omega (arith, ints, h)

      both_near : (z w : ℤ) → unsigned_abs z ≤ 2 ^ 36 → unsigned_abs w ≤ 2 ^ 36 → unsigned_abs (z +ℤ pos 1 *ℤ w) ≤ 2 ^ 38
      both_near z w h g = omega (arith, ints, h, g)

-- ---- the scope inside a nest

module _ (line : ℕ → Line) (lim : ℕ → List Form) where
  abbrev pub inner_of : ℕ → List Turning → List Binder → List Binder
  inner_of n ts bs = along (lines_of line lim n ts) ++ bs

  -- what a line tells of its symbol
  abbrev pub line_binding : Line → Turning → List Form → Binding
  line_binding Loop t fs = Bound (limited (span t.low t.last fs))
  line_binding (Block f z) t fs = LetMin (f ∷ number z ∷ [])
  line_binding (Pair f z) t fs = LetMin (f ∷ number z ∷ [])

  inner_next : (n : ℕ) (t : Turning) (ts : List Turning) (bs : List Binder) → inner_of n (t ∷ ts) bs ≡ inner_of (n + 1) ts (line_binders (line n) (item_of n t) (lim n) ++ bs)
  inner_next n t ts bs =
      ap (λ (us : List Binder). us ++ bs) (line_along line lim always (line n) n t (lim n) (lines_of line lim (n + 1) ts))
      ∙ append_assoc (along (lines_of line lim (n + 1) ts)) (line_binders (line n) (item_of n t) (lim n)) bs

  line_skips : (l : Line) (n : ℕ) (t : Turning) (fs : List Form) (bs : List Binder) (s : ℕ) → (n == s) ≡ false → binding_of (line_binders l (item_of n t) fs ++ bs) s ≡ binding_of bs s
  line_skips Loop n t fs bs s e = ap (λ (b : Bool). if b then Bound (limited (span t.low t.last fs)) else binding_of bs s) e
  line_skips (Block f z) n t fs bs s e = ap (λ (b : Bool). if b then LetMin (f ∷ number z ∷ []) else binding_of bs s) e
  line_skips (Pair f z) n t fs bs s e = ap (λ (b : Bool). if b then LetMin (f ∷ number z ∷ []) else binding_of bs s) e

  line_tells : (l : Line) (n : ℕ) (t : Turning) (fs : List Form) (bs : List Binder) → binding_of (line_binders l (item_of n t) fs ++ bs) n ≡ line_binding l t fs
  line_tells Loop n t fs bs = ap (λ (b : Bool). if b then Bound (limited (span t.low t.last fs)) else binding_of bs n) (eq_refl n)
  line_tells (Block f z) n t fs bs = ap (λ (b : Bool). if b then LetMin (f ∷ number z ∷ []) else binding_of bs n) (eq_refl n)
  line_tells (Pair f z) n t fs bs = ap (λ (b : Bool). if b then LetMin (f ∷ number z ∷ []) else binding_of bs n) (eq_refl n)

  line_counts : (l : Line) (n : ℕ) (t : Turning) (fs : List Form) (bs : List Binder) → (symbol_count bs ≤ symbol_count (line_binders l (item_of n t) fs ++ bs)) × (n < symbol_count
      (line_binders l (item_of n t) fs ++ bs))
  line_counts Loop n t fs bs = (omega arith, omega arith)
  line_counts (Block f z) n t fs bs = (omega arith, omega arith)
  line_counts (Pair f z) n t fs bs = (omega arith, omega arith)

  pub skips : (n : ℕ) (ts : List Turning) (bs : List Binder) (s : ℕ) → s < n → binding_of (inner_of n ts bs) s ≡ binding_of bs s
  skips n [] bs s less = refl
  skips n (t ∷ ts) bs s less =
      let differs : (n == s) ≡ false = grind (arith, nat_tests) in
      ap (λ (us : List Binder). binding_of us s) (inner_next n t ts bs) ∙ skips (n + 1) ts (line_binders (line n) (item_of n t) (lim n) ++ bs) s (omega (arith, less))
      ∙ line_skips (line n) n t (lim n) bs s differs

  tells : (n : ℕ) (ts : List Turning) (bs : List Binder) (j : ℕ) (t : Turning) → slice_get ts j ≡ Some t → binding_of (inner_of n ts bs) (n + j) ≡ line_binding (line (n + j)) t (lim (n + j))
  tells n [] bs j t at = absurd (cc at)
  tells n (u ∷ ts) bs zero t at =
      let is : u ≡ t = cc at in
      let none : n + 0 ≡ n = omega arith in
      (λ i. binding_of (inner_next n u ts bs i) (none i)) ∙ skips (n + 1) ts (line_binders (line n) (item_of n u) (lim n) ++ bs) n (omega arith) ∙ line_tells (line n) n u (lim n) bs
      ∙ ap (λ (v : Turning). line_binding (line n) v (lim n)) is ∙ ap (λ (m : ℕ). line_binding (line m) t (lim m)) (sym none)
  tells n (u ∷ ts) bs (suc j) t at =
      let next : n + suc j ≡ (n + 1) + j = omega arith in
      (λ i. binding_of (inner_next n u ts bs i) (next i)) ∙ tells (n + 1) ts (line_binders (line n) (item_of n u) (lim n) ++ bs) j t at
      ∙ ap (λ (m : ℕ). line_binding (line m) t (lim m)) (sym next)

  pub count_more : (n : ℕ) (ts : List Turning) (bs : List Binder) → symbol_count bs ≤ symbol_count (inner_of n ts bs)
  count_more n [] bs = omega arith
  count_more n (t ∷ ts) bs =
      let rest = count_more (n + 1) ts (line_binders (line n) (item_of n t) (lim n) ++ bs) in
      let here = (line_counts (line n) n t (lim n) bs).0 in
      let is = ap symbol_count (inner_next n t ts bs) in
      omega (arith, rest, here, is)

  count_there : (n : ℕ) (ts : List Turning) (bs : List Binder) (j : ℕ) (t : Turning) → slice_get ts j ≡ Some t → n + j < symbol_count (inner_of n ts bs)
  count_there n [] bs j t at = absurd (cc at)
  count_there n (u ∷ ts) bs zero t at =
      let rest = count_more (n + 1) ts (line_binders (line n) (item_of n u) (lim n) ++ bs) in
      let here = (line_counts (line n) n u (lim n) bs).1 in
      let is = ap symbol_count (inner_next n u ts bs) in
      omega (arith, rest, here, is)
  count_there n (u ∷ ts) bs (suc j) t at =
      let rest = count_there (n + 1) ts (line_binders (line n) (item_of n u) (lim n) ++ bs) j t at in
      let is = ap symbol_count (inner_next n u ts bs) in
      omega (arith, rest, is)

  -- a symbol below is none of theirs
  pub none_along : (k n : ℕ) (ts : List Turning) → k < n → list_any (binds k) (along (lines_of line lim n ts)) ≡ false
  none_along k n [] less = refl
  none_along k n (t ∷ ts) less =
      ap (list_any (binds k)) (line_along line lim always (line n) n t (lim n) (lines_of line lim (n + 1) ts))
      ∙ joined (along (lines_of line lim (n + 1) ts)) (line_binders (line n) (item_of n t) (lim n)) (none_along k (n + 1) ts (omega (arith, less))) (own (line n))
    where
      joined : (xs ys : List Binder) → list_any (binds k) xs ≡ false → list_any (binds k) ys ≡ false → list_any (binds k) (xs ++ ys) ≡ false
      joined [] ys h g = g
      joined (x ∷ xs) ys h g = of (binds k x) h (λ q. joined xs ys q g)
        where
          of : (b : Bool) → (b || list_any (binds k) xs) ≡ false → (list_any (binds k) xs ≡ false → list_any (binds k) (xs ++ ys) ≡ false) → (b || list_any (binds k) (xs ++ ys)) ≡ false
          of true q rest = absurd (cc q)
          of false q rest = rest q

      differs : (k == n) ≡ false
      differs = grind (arith, nat_tests, less)

      own : (l : Line) → list_any (binds k) (line_binders l (item_of n t) (lim n)) ≡ false
      own Loop = λ j. differs j || false
      own (Block f z) = λ j. differs j || false
      own (Pair f z) = λ j. differs j || (false || false)

-- ---- places

-- each further upper form is within the limits
module _ (line : ℕ → Line) (lim : ℕ → List Form) (n : ℕ) (ts : List Turning) (short : n + length ts ≤ most_symbols) (rules : Rules) (bound : rules.at_most ≡ shown_at_most) (bs : List Binder)
    (near : (j : ℕ) (t : Turning) → slice_get ts j ≡ Some t → (unsigned_abs t.low ≤ 2 ^ 36) × (unsigned_abs t.last ≤ 2 ^ 36))
    (limits_in : (j : ℕ) (t : Turning) → slice_get ts j ≡ Some t → list_all is_within_limits (lim (n + j)) ≡ true) where
  abbrev pub inner : List Binder
  inner = inner_of line lim n ts bs

  abbrev pub sc : List Binding
  sc = scope_of inner

  -- what is known of a symbol
  pub scope_at : (j : ℕ) (t : Turning) → slice_get ts j ≡ Some t → (slice_get (scope_of inner) (n + j) ≡ Some (line_binding line lim (line (n + j)) t (lim (n + j)))) × (n + j < length
      (scope_of inner))
  scope_at j t at = (there, (let long = scope_long (binding_of inner) 0 (min (symbol_count inner) most_symbols) in let w = within in omega (arith, long, w)))
    where
      within : n + j < min (symbol_count inner) most_symbols
      within = (let few = at_length ts j t at in let counts = count_there line lim n ts bs j t at in omega (arith, few, short, counts))

      there : slice_get (scope_of inner) (n + j) ≡ Some (line_binding line lim (line (n + j)) t (lim (n + j)))
      there =
          let from_zero : 0 + (n + j) ≡ n + j = omega arith in
          at_place (binding_of inner) 0 (min (symbol_count inner) most_symbols) (n + j) within ∙ ap (λ (m : ℕ). Some (binding_of inner m)) from_zero
          ∙ ap (λ (b : Binding). Some b) (tells line lim n ts bs j t at)

  -- of a loop's
  pub scope_has : (j : ℕ) (t : Turning) → slice_get ts j ≡ Some t → line (n + j) ≡ Loop →
      (slice_get (scope_of inner) (n + j) ≡ Some (Bound (span t.low t.last (lim (n + j))))) × (n + j < length (scope_of inner))
  scope_has j t at loop =
      let r = scope_at j t at in
      let ends = near j t at in
      let low = ends.0 in
      let last = ends.1 in
      let one = number_limited t.low (omega (arith, low)) in
      let two = number_limited t.last (omega (arith, last)) in
      let three = limits_in j t at in
      let kept : limited (span t.low t.last (lim (n + j))) ≡ span t.low t.last (lim (n + j)) =
      λ i. if (one i && true) && (two i && three i) then span t.low t.last (lim (n + j)) else anything in
      (r.0 ∙ (λ i. Some (line_binding line lim (loop i) t (lim (n + j)))) ∙ ap (λ (y : Span1). Some (Bound y)) kept, r.1)

  -- and of a let's behind a guard
  pub scope_pair : (j : ℕ) (t : Turning) → slice_get ts j ≡ Some t → (f : Form) (z : ℤ) → line (n + j) ≡ Pair f z →
      (slice_get (scope_of inner) (n + j) ≡ Some (LetMin (f ∷ number z ∷ []))) × (n + j < length (scope_of inner))
  scope_pair j t at f z is = (let r = scope_at j t at in (r.0 ∙ (λ i. Some (line_binding line lim (is i) t (lim (n + j)))), r.1))

  -- where it has no further upper form
  pub scope_bare : (j : ℕ) (t : Turning) → slice_get ts j ≡ Some t → line (n + j) ≡ Loop → lim (n + j) ≡ [] → (slice_get (scope_of inner) (n + j) ≡ Some (Bound (span t.low t.last []))) × (n
      + j < length (scope_of inner))
  scope_bare j t at loop none = (let r = scope_has j t at loop in (r.0 ∙ ap (λ (fs : List Form). Some (Bound (span t.low t.last fs))) none, r.1))

  pub seated_by : (f l : Form) (m : ℕ) → rules.at_most inner l f ≡ true → rules.at_most inner f (raised l (pos m -ℤ pos 1)) ≡ true → is_seated rules inner (exactly f) (From l m) ≡ true
  seated_by f l m one two = λ j. ((one j || false) && true) && ((two j || false) && true)

  pub shown : (f g : Form) → at_most sc f g ≡ true → rules.at_most inner f g ≡ true
  shown f g e = (λ j. bound j inner f g) ∙ e

  -- a form over the grid has its one place
  pub seat_self : (f : Form) → is_within_limits f ≡ true → is_seated rules inner (exactly f) (From f 1) ≡ true
  seat_self f limited_form =
      let self = shown f f (form_self sc f limited_form) in
      let zero_more : f.constant ≡ f.constant +ℤ (pos 1 -ℤ pos 1) = omega (arith, ints) in
      let raised_is : f ≡ raised f (pos 1 -ℤ pos 1) = (λ j. record { constant = zero_more j; terms = f.terms }) in
      seated_by f f 1 self (ap (rules.at_most inner f) (sym raised_is) ∙ self)

  -- a loop's symbol
  pub seat_loop : (j : ℕ) (t : Turning) → slice_get ts j ≡ Some t → line (n + j) ≡ Loop → lim (n + j) ≡ [] → (low : ℤ) (m : ℕ) → t.low ≡ low → t.last ≡ low +ℤ (pos m -ℤ pos 1) →
      is_seated rules inner (exactly (alone (n + j))) (From (number low) m) ≡ true
  seat_loop j t at loop bare low m from to =
      let ends = near j t at in
      let low_near = ends.0 in
      let last_near = ends.1 in
      let w = scope_bare j t at loop bare in
      let above = loop_above sc (n + j) t.low t.last (omega (arith, low_near)) (omega (arith, last_near)) w.0 w.1 in
      let below = loop_below sc (n + j) t.low t.last (omega (arith, low_near)) (omega (arith, last_near)) w.0 w.1 in
      seated_by (alone (n + j)) (number low) m (shown (number low) (alone (n + j)) (ap (λ (z : ℤ). at_most sc (number z) (alone (n + j))) (sym from) ∙ above))
      (shown (alone (n + j)) (number (low +ℤ (pos m -ℤ pos 1))) (ap (λ (z : ℤ). at_most sc (alone (n + j)) (number z)) (sym to) ∙ below))

  -- the first number of a block, which the grid tells, and a loop's symbol
  pub seat_block : (s i k : ℕ) (u : Turning) → slice_get ts i ≡ Some u → line (n + i) ≡ Loop → lim (n + i) ≡ [] → s < n → u.low ≡ pos 0 → u.last ≡ pos k → suc k ≤ 1024 → (low : ℤ) →
      unsigned_abs low ≤ 2 ^ 36 →
      is_seated rules inner (exactly (pair low s (pos (suc k)) (n + i))) (From (one_of low (pos (suc k)) s) (suc k)) ≡ true
  seat_block s i k u at loop bare less from to few low low_near =
      let w = scope_bare i u at loop bare in
      let under : s < n + i = omega (arith, less) in
      let before : nat_lt s (n + i) ≡ true = grind (arith, nat_tests, under) in
      let is : pair low s (pos (suc k)) (n + i) ≡ two_of low (pos (suc k)) s (pos 1) (n + i) =
      (λ j. record { constant = low; terms = if before j then multiple s (pos (suc k)) ∷ multiple (n + i) (pos 1) ∷ [] else multiple (n + i) (pos 1) ∷ multiple s (pos (suc k)) ∷ [] }) in
      let above = block_above sc s (n + i) under w.1 k few (span u.low u.last []) w.0 low low_near (ap (λ (z : ℤ). number z ∷ []) from) in
      let below = block_below sc s (n + i) under w.1 k few (span u.low u.last []) w.0 low low_near (ap (λ (z : ℤ). number z ∷ []) to) in
      let one_less : pos (suc k) -ℤ pos 1 ≡ pos k = omega (arith, ints) in
      ap (λ (f : Form). is_seated rules inner (exactly f) (From (one_of low (pos (suc k)) s) (suc k))) is
      ∙ seated_by (two_of low (pos (suc k)) s (pos 1) (n + i)) (one_of low (pos (suc k)) s) (suc k)
      (shown (one_of low (pos (suc k)) s) (two_of low (pos (suc k)) s (pos 1) (n + i)) above)
      (ap (λ (z : ℤ). rules.at_most inner (two_of low (pos (suc k)) s (pos 1) (n + i)) (raised (one_of low (pos (suc k)) s) z)) one_less
      ∙ shown (two_of low (pos (suc k)) s (pos 1) (n + i)) (raised (one_of low (pos (suc k)) s) (pos k)) below)

  -- two loops' symbols
  pub seat_split : (o i k t : ℕ) (v u : Turning) → slice_get ts o ≡ Some v → slice_get ts i ≡ Some u → line (n + o) ≡ Loop → line (n + i) ≡ Loop → lim (n + o) ≡ [] → lim (n + i) ≡ [] → (o
      == i) ≡ false → v.low ≡ pos 0 → v.last ≡ pos t →
      u.low ≡ pos 0 → u.last ≡ pos k →
      suc k ≤ 1024 → (low : ℤ) (m : ℕ) → unsigned_abs low ≤ 2 ^ 36 → pos t *ℤ pos (suc k) +ℤ pos k ≡ pos m -ℤ pos 1 → m ≤ 2 ^ 36 →
      is_seated rules inner (exactly (pair low (n + o) (pos (suc k)) (n + i))) (From (number low) m) ≡ true
  seat_split o i k t v u at_o at_i loop_o loop_i bare_o bare_i differ v_low v_last u_low u_last few low m low_near count small = of (nat_lt (n + o) (n + i)) refl
    where
      wo : (slice_get (scope_of inner) (n + o) ≡ Some (Bound (span v.low v.last []))) × (n + o < length (scope_of inner))
      wo = scope_bare o v at_o loop_o bare_o

      wi : (slice_get (scope_of inner) (n + i) ≡ Some (Bound (span u.low u.last []))) × (n + i < length (scope_of inner))
      wi = scope_bare i u at_i loop_i bare_i

      high : ℤ
      high = low +ℤ (pos m -ℤ pos 1)

      high_near : unsigned_abs high ≤ 2 ^ 37
      high_near = sum_near low (pos m -ℤ pos 1) (2 ^ 36) (2 ^ 36) (2 ^ 37) low_near (less_one m small) (omega arith)
        where
          less_one : (m : ℕ) → m ≤ 2 ^ 36 → unsigned_abs (pos m -ℤ pos 1) ≤ 2 ^ 36
          less_one m le = omega (arith, ints, le)

      t_near : unsigned_abs (pos t) ≤ 2 ^ 36
      t_near = subst (λ (z : ℤ). unsigned_abs z ≤ 2 ^ 36) v_last (near o v at_o).1

      k_near : unsigned_abs (pos k) ≤ 2 ^ 36
      k_near = omega (arith, few)

      one_time : (z : ℤ) → pos 1 *ℤ z ≡ z
      one_time z = omega (arith, ints)

      times : pos (suc k) *ℤ pos t ≡ pos t *ℤ pos (suc k)
      times = omega (arith, ints)

      outer_near : unsigned_abs (pos (suc k) *ℤ pos t) ≤ 2 ^ 37
      outer_near = subst (λ (z : ℤ). unsigned_abs z ≤ 2 ^ 37) (sym times) (by (pos t *ℤ pos (suc k)) count)
        where
          by : (p : ℤ) → p +ℤ pos k ≡ pos m -ℤ pos 1 → unsigned_abs p ≤ 2 ^ 37
          by p e = omega (arith, ints, e, small, few)

      inner_near : unsigned_abs (pos 1 *ℤ pos k) ≤ 2 ^ 37
      inner_near = subst (λ (z : ℤ). unsigned_abs z ≤ 2 ^ 37) (sym (one_time (pos k))) (omega (arith, few))

      top : (p : ℤ) → p ≡ pos t *ℤ pos (suc k) → (((low +ℤ pos k) +ℤ p) ≤ℤ high) × (((low +ℤ p) +ℤ pos k) ≤ℤ high)
      top p e = by p (ap (λ (z : ℤ). z +ℤ pos k) e ∙ count)
        where
          by : (p : ℤ) → p +ℤ pos k ≡ pos m -ℤ pos 1 → (((low +ℤ pos k) +ℤ p) ≤ℤ high) × (((low +ℤ p) +ℤ pos k) ≤ℤ high)
          by p e = (omega (arith, ints, e), omega (arith, ints, e))

      start : (z : ℤ) → z ≡ pos 0 → number z ∷ [] ≡ number (pos 0) ∷ []
      start z e = ap (λ (y : ℤ). number y ∷ []) e

      end : (z y : ℤ) → z ≡ y → number z ∷ [] ≡ number y ∷ []
      end z y e = ap (λ (x : ℤ). number x ∷ []) e

      by_form : (f : Form) → pair low (n + o) (pos (suc k)) (n + i) ≡ f → at_most sc (number low) f ≡ true → at_most sc f (number high) ≡ true →
          is_seated rules inner (exactly (pair low (n + o) (pos (suc k)) (n + i))) (From (number low) m) ≡ true
      by_form f is above below =
          ap (λ (g : Form). is_seated rules inner (exactly g) (From (number low) m)) is ∙ seated_by f (number low) m (shown (number low) f above) (shown f (number high) below)

      of : (b : Bool) → nat_lt (n + o) (n + i) ≡ b → is_seated rules inner (exactly (pair low (n + o) (pos (suc k)) (n + i))) (From (number low) m) ≡ true
      of true e =
          let less : n + o < n + i = grind (arith, nat_tests, e) in
          let is : pair low (n + o) (pos (suc k)) (n + i) ≡ two_of low (pos (suc k)) (n + o) (pos 1) (n + i) =
          (λ j. record { constant = low; terms = if e j then multiple (n + o) (pos (suc k)) ∷ multiple (n + i) (pos 1) ∷ [] else multiple (n + i) (pos 1) ∷ multiple (n + o) (pos (suc k)) ∷ [] }) in
          let sum : ((low +ℤ pos 1 *ℤ pos k) +ℤ pos (suc k) *ℤ pos t) ≤ℤ high =
          subst (λ (z : ℤ). ((low +ℤ z) +ℤ pos (suc k) *ℤ pos t) ≤ℤ high) (sym (one_time (pos k))) (top (pos (suc k) *ℤ pos t) times).0 in
          by_form (two_of low (pos (suc k)) (n + o) (pos 1) (n + i)) is
          (two_above sc (n + o) (n + i) less wi.1 k 0 few (omega arith) (span v.low v.last []) (span u.low u.last []) wo.0 wi.0 low low_near (start v.low v_low) (start u.low u_low))
          (two_below sc (n + o) (n + i) less wi.1 k 0 few (omega arith) (span v.low v.last []) (span u.low u.last []) wo.0 wi.0 low low_near (pos t) (pos k) high (end v.last (pos t) v_last)
          (end u.last (pos k) u_last) t_near k_near outer_near inner_near high_near sum)
      of false e =
          let less : n + i < n + o = grind (arith, nat_tests, e, differ) in
          let is : pair low (n + o) (pos (suc k)) (n + i) ≡ two_of low (pos 1) (n + i) (pos (suc k)) (n + o) =
          (λ j. record { constant = low; terms = if e j then multiple (n + o) (pos (suc k)) ∷ multiple (n + i) (pos 1) ∷ [] else multiple (n + i) (pos 1) ∷ multiple (n + o) (pos (suc k)) ∷ [] }) in
          let sum : ((low +ℤ pos (suc k) *ℤ pos t) +ℤ pos 1 *ℤ pos k) ≤ℤ high =
          subst (λ (z : ℤ). ((low +ℤ pos (suc k) *ℤ pos t) +ℤ z) ≤ℤ high) (sym (one_time (pos k))) (top (pos (suc k) *ℤ pos t) times).1 in
          by_form (two_of low (pos 1) (n + i) (pos (suc k)) (n + o)) is
          (two_above sc (n + i) (n + o) less wo.1 0 k (omega arith) few (span u.low u.last []) (span v.low v.last []) wi.0 wo.0 low low_near (start u.low u_low) (start v.low v_low))
          (two_below sc (n + i) (n + o) less wo.1 0 k (omega arith) few (span u.low u.last []) (span v.low v.last []) wi.0 wo.0 low low_near (pos k) (pos t) high (end u.last (pos k) u_last)
          (end v.last (pos t) v_last) k_near t_near inner_near outer_near high_near sum)

  -- a block whose last number is kept within the loop: the grid tells its first one
  pub seat_kept_block : (s i k : ℕ) (u : Turning) → slice_get ts i ≡ Some u → line (n + i) ≡ Loop → s < n → (x : Span1) → slice_get (scope_of inner) s ≡ Some (Bound x) → x.lower ≡ number
      (pos 0) ∷ [] → u.low ≡ pos 0 →
      u.last ≡ pos k → suc k ≤ 1024 → (low last : ℤ) → unsigned_abs low ≤ 2 ^ 36 → unsigned_abs last ≤ 2 ^ 36 → lim (n + i) ≡ left_over last low (pos (suc k)) s ∷ [] →
      is_seated rules inner (exactly (pair low s (pos (suc k)) (n + i))) (From (one_of low (pos (suc k)) s) (suc k)) ≡ true
  seat_kept_block s i k u at loop less x there x_low from to few low last low_near last_near limit =
      let w = scope_has i u at loop in
      let under : s < n + i = omega (arith, less) in
      let before : nat_lt s (n + i) ≡ true = grind (arith, nat_tests, under) in
      let is : pair low s (pos (suc k)) (n + i) ≡ two_of low (pos (suc k)) s (pos 1) (n + i) =
      (λ j. record { constant = low; terms = if before j then multiple s (pos (suc k)) ∷ multiple (n + i) (pos 1) ∷ [] else multiple (n + i) (pos 1) ∷ multiple s (pos (suc k)) ∷ [] }) in
      let above = block_above sc s (n + i) under w.1 k few (span u.low u.last (lim (n + i))) w.0 low low_near (ap (λ (z : ℤ). number z ∷ []) from) in
      let y_last : number u.last ∷ lim (n + i) ≡ number (pos k) ∷ left_over last low (pos (suc k)) s ∷ [] = (λ j. number (to j) ∷ limit j) in
      let below = kept_below sc s (n + i) under w.1 k few x (span u.low u.last (lim (n + i))) there w.0 low last low_near last_near x_low y_last in
      let one_less : pos (suc k) -ℤ pos 1 ≡ pos k = omega (arith, ints) in
      ap (λ (f : Form). is_seated rules inner (exactly f) (From (one_of low (pos (suc k)) s) (suc k))) is
      ∙ seated_by (two_of low (pos (suc k)) s (pos 1) (n + i)) (one_of low (pos (suc k)) s) (suc k)
      (shown (one_of low (pos (suc k)) s) (two_of low (pos (suc k)) s (pos 1) (n + i)) above)
      (ap (λ (z : ℤ). rules.at_most inner (two_of low (pos (suc k)) s (pos 1) (n + i)) (raised (one_of low (pos (suc k)) s) z)) one_less
      ∙ shown (two_of low (pos (suc k)) s (pos 1) (n + i)) (raised (one_of low (pos (suc k)) s) (pos k)) below)

  -- two loops' symbols, of which the inner one is kept
  pub seat_kept_split : (o i k t : ℕ) (v u : Turning) → slice_get ts o ≡ Some v → slice_get ts i ≡ Some u → line (n + o) ≡ Loop → line (n + i) ≡ Loop → o < i → lim (n + o) ≡ [] → v.low ≡
      pos 0 → v.last ≡ pos t → u.low ≡ pos 0 →
      u.last ≡ pos k → suc k ≤ 1024 → (low : ℤ) (m : ℕ) → unsigned_abs low ≤ 2 ^ 36 → m ≤ 2 ^ 36 → t * suc k ≤ 2 ^ 36 → unsigned_abs ((pos m -ℤ pos 1) +ℤ low) ≤ 2 ^ 36 →
      lim (n + i) ≡ left_over ((pos m -ℤ pos 1) +ℤ low) low (pos (suc k)) (n + o) ∷ [] →
      is_seated rules inner (exactly (pair low (n + o) (pos (suc k)) (n + i))) (From (number low) m) ≡ true
  seat_kept_split o i k t v u at_o at_i loop_o loop_i first bare v_low v_last u_low u_last few low m low_near small times last_near limit =
      let wo = scope_bare o v at_o loop_o bare in
      let wi = scope_has i u at_i loop_i in
      let less : n + o < n + i = omega (arith, first) in
      let before : nat_lt (n + o) (n + i) ≡ true = grind (arith, nat_tests, less) in
      let is : pair low (n + o) (pos (suc k)) (n + i) ≡ two_of low (pos (suc k)) (n + o) (pos 1) (n + i) =
      (λ j. record { constant = low; terms = if before j then multiple (n + o) (pos (suc k)) ∷ multiple (n + i) (pos 1) ∷ [] else multiple (n + i) (pos 1) ∷ multiple (n + o) (pos (suc k)) ∷ [] }) in
      let last : ℤ = (pos m -ℤ pos 1) +ℤ low in
      let y_last : number u.last ∷ lim (n + i) ≡ number (pos k) ∷ left_over last low (pos (suc k)) (n + o) ∷ [] = (λ j. number (u_last j) ∷ limit j) in
      let above = two_above sc (n + o) (n + i) less wi.1 k 0 few (omega arith) (span v.low v.last []) (span u.low u.last (lim (n + i))) wo.0 wi.0 low low_near
      (ap (λ (z : ℤ). number z ∷ []) v_low) (ap (λ (z : ℤ). number z ∷ []) u_low) in
      let high_is : low +ℤ (pos m -ℤ pos 1) ≡ last = turned low (pos m -ℤ pos 1) in
      let below = limited_below sc (n + o) (n + i) less wi.1 k t few (span v.low v.last []) (span u.low u.last (lim (n + i))) wo.0 wi.0 low last low_near last_near
      (ap (λ (z : ℤ). number z ∷ []) v_last) y_last (t_near t k times) (times_near t k times) last (wider last last_near) (itself last) in
      ap (λ (f : Form). is_seated rules inner (exactly f) (From (number low) m)) is
      ∙ seated_by (two_of low (pos (suc k)) (n + o) (pos 1) (n + i)) (number low) m (shown (number low) (two_of low (pos (suc k)) (n + o) (pos 1) (n + i)) above)
      (ap (λ (z : ℤ). rules.at_most inner (two_of low (pos (suc k)) (n + o) (pos 1) (n + i)) (number z)) high_is
      ∙ shown (two_of low (pos (suc k)) (n + o) (pos 1) (n + i)) (number last) below)
    where
      turned : (z y : ℤ) → (z +ℤ y) ≡ y +ℤ z
      turned z y = omega (arith, ints)

      itself : (z : ℤ) → z ≤ℤ z
      itself z = omega (arith, ints)

      wider : (z : ℤ) → unsigned_abs z ≤ 2 ^ 36 → unsigned_abs z ≤ 2 ^ 37
      wider z h = omega (arith, h)

      at_most_times : (b d : ℕ) → b ≤ b * suc d
      at_most_times b d = (let is = mul-suc b d in omega (arith, is))

      t_near : (t k : ℕ) → t * suc k ≤ 2 ^ 36 → unsigned_abs (pos t) ≤ 2 ^ 36
      t_near t k h = (let le = at_most_times t k in omega (arith, le, h))

      times_near : (t k : ℕ) → t * suc k ≤ 2 ^ 36 → unsigned_abs (pos (suc k) *ℤ pos t) ≤ 2 ^ 38
      times_near t k h = subst (λ (z : ℤ). unsigned_abs z ≤ 2 ^ 38) (sym (times_is t k)) (omega (arith, h))
        where
          times_is : (t k : ℕ) → pos (suc k) *ℤ pos t ≡ pos (t * suc k)
          times_is t k = omega (arith, ints)

  -- the symbol of a let behind a guard, over a position of which the outer loop stands inside of the inner one
  pub seat_pair : (p o i k t : ℕ) (w v u : Turning) → slice_get ts p ≡ Some w → slice_get ts o ≡ Some v → slice_get ts i ≡ Some u → i < o → o < p → line (n + o) ≡ Loop → line (n + i) ≡ Loop →
      lim (n + o) ≡ [] → lim (n + i) ≡ [] → v.low ≡ pos 0 → v.last ≡ pos t → u.low ≡ pos 0 → u.last ≡ pos k → suc k ≤ 1024 → (low : ℤ) (m : ℕ) → unsigned_abs low ≤ 2 ^ 36 → 0 < m → m ≤ 2 ^ 36 →
      t * suc k ≤ 2 ^ 36 → unsigned_abs ((pos m -ℤ pos 1) +ℤ low) ≤ 2 ^ 36 → line (n + p) ≡ Pair (pair low (n + o) (pos (suc k)) (n + i)) ((pos m -ℤ pos 1) +ℤ low) →
      is_seated rules inner (exactly (alone (n + p))) (From (number low) m) ≡ true
  seat_pair p o i k t w v u at_p at_o at_i inside behind loop_o loop_i bare_o bare_i v_low v_last u_low u_last few low m low_near some small times last_near is =
      let wo = scope_bare o v at_o loop_o bare_o in
      let wi = scope_bare i u at_i loop_i bare_i in
      let last : ℤ = (pos m -ℤ pos 1) +ℤ low in
      let before : nat_lt (n + o) (n + i) ≡ false = grind (arith, nat_tests, inside) in
      let form_is : pair low (n + o) (pos (suc k)) (n + i) ≡ two_of low (pos 1) (n + i) (pos (suc k)) (n + o) =
      (λ j. record { constant = low; terms = if before j then multiple (n + o) (pos (suc k)) ∷ multiple (n + i) (pos 1) ∷ [] else multiple (n + i) (pos 1) ∷ multiple (n + o) (pos (suc k)) ∷ [] }) in
      let wp = scope_pair p w at_p (two_of low (pos 1) (n + i) (pos (suc k)) (n + o)) last (is ∙ ap (λ (f : Form). Pair f last) form_is) in
      let above = pair_over sc (n + i) (n + o) (n + p) (omega (arith, inside)) (omega (arith, behind)) wp.1 0 k (omega arith) few (span u.low u.last []) (span v.low v.last []) wi.0 wo.0 low
      last low_near
      last_near wp.0 (ap (λ (z : ℤ). number z ∷ []) u_low) (ap (λ (z : ℤ). number z ∷ []) v_low) (low_under low m some) in
      let below = pair_under sc (n + i) (n + o) (n + p) (omega (arith, inside)) (omega (arith, behind)) wp.1 0 k (omega arith) few (span u.low u.last []) (span v.low v.last []) wi.0 wo.0 low last
      low_near last_near wp.0 (pos k) (pos t) (ap (λ (z : ℤ). number z ∷ []) u_last) (ap (λ (z : ℤ). number z ∷ []) v_last) (omega (arith, few)) (t_near t k times)
      (one_near k few) (times_near t k times) in
      let high_is : low +ℤ (pos m -ℤ pos 1) ≡ last = turned low (pos m -ℤ pos 1) in
      seated_by (alone (n + p)) (number low) m (shown (number low) (alone (n + p)) above)
      (ap (λ (z : ℤ). rules.at_most inner (alone (n + p)) (number z)) high_is ∙ shown (alone (n + p)) (number last) below)
    where
      turned : (z y : ℤ) → (z +ℤ y) ≡ y +ℤ z
      turned z y = omega (arith, ints)

      low_under : (z : ℤ) (q : ℕ) → 0 < q → z ≤ℤ ((pos q -ℤ pos 1) +ℤ z)
      low_under z q h = omega (arith, ints, h)

      at_most_times : (b d : ℕ) → b ≤ b * suc d
      at_most_times b d = (let is = mul-suc b d in omega (arith, is))

      t_near : (t k : ℕ) → t * suc k ≤ 2 ^ 36 → unsigned_abs (pos t) ≤ 2 ^ 36
      t_near t k h = (let le = at_most_times t k in omega (arith, le, h))

      one_near : (k : ℕ) → suc k ≤ 1024 → unsigned_abs (pos 1 *ℤ pos k) ≤ 2 ^ 37
      one_near k h = omega (arith, ints, h)

      times_near : (t k : ℕ) → t * suc k ≤ 2 ^ 36 → unsigned_abs (pos (suc k) *ℤ pos t) ≤ 2 ^ 37
      times_near t k h = subst (λ (z : ℤ). unsigned_abs z ≤ 2 ^ 37) (sym (times_is t k)) (omega (arith, h))
        where
          times_is : (t k : ℕ) → pos (suc k) *ℤ pos t ≡ pos (t * suc k)
          times_is t k = omega (arith, ints)

  -- the origin of a block's places is over the grid
  pub steady_one : (z c : ℤ) (s m : ℕ) → s < n → is_steady false (along (lines_of line lim n ts)) (From (one_of z c s) m) ≡ true
  steady_one z c s m less = (let none = none_along line lim s n ts less in λ j. not (none j) && true)
