-- Forms of split loops: a number, a multiple of the outer loop's symbol, and the inner loop's symbol; what they come to, and between which numbers bounds find them.
use Rattle.std.proofs.Common.{◌≡◌, ℕ, zero, suc, ◌+◌, ◌*◌, ◌<◌, ◌≤◌, ◌^◌, Bool, true, false, ◌&&◌, ◌||◌, not, List, [], ◌∷◌, length, map, Option, Some, None, refl, sym, ap, ◌∙◌, subst}
use Rattle.std.proofs.Common.{inl, inr, arith}
use Rattle.std.specs.Prelude.{ℤ, pos, ◌+ℤ◌, ◌-ℤ◌, ◌*ℤ◌, ◌≤ℤ◌, int_le, nat_lt, nat_le, ◌==◌, if◌then◌else◌, slice_get, option_and_then}
use Rattle.std.specs.List.{list_any}
use Rattle.std.specs.Option.{option_map_or}
use Rattle.std.specs.Ordering.{int_eq}
use Rattle.std.specs.Int.RustNames.{unsigned_abs}
use Rattle.std.proofs.lemmas.Bool.{le-leb}
use Rattle.std.proofs.lemmas.Bool.Decides.{nat_tests}
use Rattle.std.proofs.lemmas.Int.{ints}
use Rattle.lin.specs.Forms.{Form, number, is_zero, factor_of, in_front, plus_multiple, without, is_within_limits, combined}
use Rattle.lin.specs.Search.{candidates, any_may_be, that_counts, replaced, result_at, total, total_at, least, replacements, sup}
use Rattle.lin.specs.declared.form.Multiple.{Multiple}
use Rattle.lin.specs.declared.scope.Binding.{Binding}
use Rattle.lin.proofs.Limits.{combined-means}
use Rattle.soundness.specs.Claims.{In}
use Rattle.soundness.specs.Obligations.{form_has}
use Rattle.soundness.proofs.Refines.{eq_refl, number_refl}
use Rattle.sched.specs.Standing.{alone, counted_from}
use Rattle.completeness.proofs.LoopMoves.{other_way, Item, is_lone}
use Rattle.completeness.proofs.BlockMoves.{SumFits, under, is_le, not_le}
use Rattle.completeness.proofs.Searched.{one_of, least_is, replacements_are}

-- ---- the forms

abbrev pub multiple : ℕ → ℤ → Multiple
multiple s c = record { symbol = s; factor = c }

-- a number, a multiple of one symbol, and another
abbrev pub pair : ℤ → ℕ → ℤ → ℕ → Form
pair z s c m = record { constant = z; terms = if nat_lt s m then multiple s c ∷ multiple m (pos 1) ∷ [] else multiple m (pos 1) ∷ multiple s c ∷ [] }

pub some_factor : (f : ℕ) → 0 < f → is_zero (pos f) ≡ false
some_factor zero h = absurd (omega (arith, h))
some_factor (suc f) h = refl

module _ (low : ℤ) (f s : ℕ) (some : 0 < f) where
  pub start_is : plus_multiple (number low) (pos f) (counted_from (pos 0) s) ≡ one_of low (pos f) s
  start_is =
      let sum : low +ℤ pos f *ℤ pos 0 ≡ low = omega (arith, ints) in
      let times : pos f *ℤ pos 1 ≡ pos f = omega (arith, ints) in
      let there = some_factor f some in
      (λ j. record { constant = sum j; terms = in_front (multiple s (times j)) [] }) ∙ (λ j. record { constant = low; terms = if there j then [] else multiple s (pos f) ∷ [] })

  pub pair_is : (m : ℕ) (start form : Form) → (s == m) ≡ false → combined (number low) (pos f) (counted_from (pos 0) s) ≡ Some start → combined start (pos 1) (alone m) ≡ Some form →
      (form ≡ pair low s (pos f) m) × (is_within_limits (pair low s (pos f) m) ≡ true)
  pair_is m start form differ begins sums =
      let one = combined-means (number low) (pos f) (counted_from (pos 0) s) start begins in
      let start_so : start ≡ one_of low (pos f) s = one.is ∙ start_is in
      let two = combined-means start (pos 1) (alone m) form sums in
      let zero_more : low +ℤ pos 1 *ℤ pos 0 ≡ low = omega (arith, ints) in
      let is : form ≡ pair low s (pos f) m =
      two.is ∙ ap (λ (g : Form). plus_multiple g (pos 1) (alone m)) start_so
      ∙ (λ j. record {
        constant = zero_more j;
        terms = if nat_lt s m then multiple s (pos f) ∷ multiple m (pos 1) ∷ [] else
            (if differ j then in_front (record { symbol = m; factor = pos f +ℤ pos 1 }) [] else multiple m (pos 1) ∷ multiple s (pos f) ∷ []);
      }) in
      (is, ap is_within_limits (sym is) ∙ two.within)

module _ (z : ℤ) (s : ℕ) (c : ℤ) (m : ℕ) where
  pub has_pair : (i : ℕ) → form_has i (pair z s c m) ≡ ((s == i) || (m == i))
  has_pair i = of (nat_lt s m)
    where
      first : (a b : Bool) → (a || (b || false)) ≡ (a || b)
      first true b = refl
      first false true = refl
      first false false = refl

      second : (a b : Bool) → (b || (a || false)) ≡ (a || b)
      second true true = refl
      second true false = refl
      second false true = refl
      second false false = refl

      of : (b : Bool) → list_any (λ t. t.symbol == i) (if b then multiple s c ∷ multiple m (pos 1) ∷ [] else multiple m (pos 1) ∷ multiple s c ∷ []) ≡ ((s == i) || (m == i))
      of true = first (s == i) (m == i)
      of false = second (s == i) (m == i)

  pub factor_one : (s == m) ≡ false → factor_of (pair z s c m).terms s ≡ c
  factor_one differ = of (nat_lt s m)
    where
      here : (s == s) ≡ true
      here = eq_refl s

      there : (m == s) ≡ false
      there = other_way s m differ

      front : (z : ℤ) → z +ℤ (pos 0 +ℤ pos 0) ≡ z
      front z = omega (arith, ints)

      behind : (z : ℤ) → pos 0 +ℤ (z +ℤ pos 0) ≡ z
      behind z = omega (arith, ints)

      of : (b : Bool) → factor_of (if b then multiple s c ∷ multiple m (pos 1) ∷ [] else multiple m (pos 1) ∷ multiple s c ∷ []) s ≡ c
      of true = (λ j. (if here j then c else pos 0) +ℤ ((if there j then pos 1 else pos 0) +ℤ pos 0)) ∙ front c
      of false = (λ j. (if there j then pos 1 else pos 0) +ℤ ((if here j then c else pos 0) +ℤ pos 0)) ∙ behind c

  pub factor_two : (s == m) ≡ false → factor_of (pair z s c m).terms m ≡ pos 1
  factor_two differ = of (nat_lt s m)
    where
      here : (m == m) ≡ true
      here = eq_refl m

      of : (b : Bool) → factor_of (if b then multiple s c ∷ multiple m (pos 1) ∷ [] else multiple m (pos 1) ∷ multiple s c ∷ []) m ≡ pos 1
      of true = (λ j. (if differ j then c else pos 0) +ℤ ((if here j then pos 1 else pos 0) +ℤ pos 0))
      of false = (λ j. (if here j then pos 1 else pos 0) +ℤ ((if differ j then c else pos 0) +ℤ pos 0))

-- ---- loops with their factors

above_itself : (z : ℤ) → int_le (z +ℤ pos 1) z ≡ false
above_itself z = not_le (z +ℤ pos 1) z (omega (arith, ints))

module _ (factor : ℕ → ℤ) where
  -- a form without a loop of the nest
  pub sum_none : (f : Form) → is_within_limits f ≡ true → unsigned_abs f.constant ≤ 2 ^ 38 → SumFits factor f []
  sum_none f limited near = record {
    limited = limited;
    apart = tt;
    has = λ u m. absurd m;
    small = omega (arith, near);
    radix = λ u m e. absurd m;
    single = λ u v m k a b e. absurd m;
  }

  -- a form with one loop, which counts once
  module _ (f : Form) (limited : is_within_limits f ≡ true) (u : Item) (once : factor u.symbol ≡ pos 1) (named : form_has u.symbol f ≡ true) (counts : factor_of f.terms u.symbol ≡ pos 1)
      (near : unsigned_abs f.constant ≤ 2 ^ 36) (low_near : unsigned_abs u.low ≤ 2 ^ 36) (last_near : unsigned_abs u.last ≤ 2 ^ 36) where
    pub sum_one : SumFits factor f (u ∷ [])
    sum_one = record {
      limited = limited;
      apart = (refl, tt);
      has = has_one;
      small = few;
      radix = radix_one;
      single = single_one;
    }
      where
        is_one : (v : Item) → In v (u ∷ []) → v ≡ u
        is_one v (inl e) = e
        is_one v (inr m) = absurd m

        own : (form_has u.symbol f ≡ true) × (factor_of f.terms u.symbol ≡ factor u.symbol) × (pos 1 ≤ℤ factor u.symbol)
        own = (named, counts ∙ sym once, omega (arith, ints, once))

        has_one : (v : Item) → In v (u ∷ []) → (form_has v.symbol f ≡ true) × (factor_of f.terms v.symbol ≡ factor v.symbol) × (pos 1 ≤ℤ factor v.symbol)
        has_one v m = subst (λ (w : Item). (form_has w.symbol f ≡ true) × (factor_of f.terms w.symbol ≡ factor w.symbol) × (pos 1 ≤ℤ factor w.symbol)) (sym (is_one v m)) own

        few : unsigned_abs f.constant + ((unsigned_abs (factor u.symbol *ℤ u.low) + unsigned_abs (factor u.symbol *ℤ u.last)) + 0) ≤ 2 ^ 39
        few =
            let one : factor u.symbol *ℤ u.low ≡ u.low = ap (λ (c : ℤ). c *ℤ u.low) once ∙ times u.low in
            let two : factor u.symbol *ℤ u.last ≡ u.last = ap (λ (c : ℤ). c *ℤ u.last) once ∙ times u.last in
            subst (λ (m : ℕ). unsigned_abs f.constant + (m + 0) ≤ 2 ^ 39) (sym (λ j. unsigned_abs (one j) + unsigned_abs (two j))) (omega (arith, near, low_near, last_near))
          where
            times : (z : ℤ) → pos 1 *ℤ z ≡ z
            times z = omega (arith, ints)

        radix_here : under factor (factor u.symbol) (u ∷ []) ≡ factor u.symbol -ℤ pos 1
        radix_here =
            let above = above_itself (factor u.symbol) in
            (λ j. (if above j then factor u.symbol *ℤ u.last -ℤ factor u.symbol *ℤ u.low else pos 0) +ℤ pos 0) ∙ (let one = once in omega (arith, ints, one))

        radix_one : (v : Item) → In v (u ∷ []) → is_lone v ≡ false → under factor (factor v.symbol) (u ∷ []) ≡ factor v.symbol -ℤ pos 1
        radix_one v m e = subst (λ (w : Item). under factor (factor w.symbol) (u ∷ []) ≡ factor w.symbol -ℤ pos 1) (sym (is_one v m)) radix_here

        single_one : (v w : Item) → In v (u ∷ []) → In w (u ∷ []) → is_lone v ≡ false → is_lone w ≡ false → factor v.symbol ≡ factor w.symbol → (v.symbol == w.symbol) ≡ true
        single_one v w m k a b e = (λ j. Item.symbol (is_one v m j) == Item.symbol (is_one w k j)) ∙ eq_refl u.symbol

  -- a form with two loops, of which the one counts blocks of as many numbers as the other has
  module _ (f : Form) (limited : is_within_limits f ≡ true) (o i : Item) (size most : ℕ) (some : 0 < size) (few_size : size ≤ 1024) (blocks : factor o.symbol ≡ pos size)
      (once : factor i.symbol ≡ pos 1) (named : form_has o.symbol f ≡ true) (inner_named : form_has i.symbol f ≡ true) (counts : factor_of f.terms o.symbol ≡ pos size)
      (inner_counts : factor_of f.terms i.symbol ≡ pos 1) (low : o.low ≡ pos 0) (last : o.last ≡ pos most) (inner_low : i.low ≡ pos 0) (inner_last : i.last ≡ pos size -ℤ pos 1)
      (apart : (o.symbol == i.symbol) ≡ false) (near : unsigned_abs f.constant ≤ 2 ^ 36) (few : most * size ≤ 2 ^ 36) where
    pub sum_two : SumFits factor f (o ∷ i ∷ [])
    sum_two = record {
      limited = limited;
      apart = ((λ j. other_way o.symbol i.symbol apart j || false), (refl, tt));
      has = has_two;
      small = small_two;
      radix = radix_two;
      single = single_two;
    }
      where
        Has : Item → Type 0
        Has v = (form_has v.symbol f ≡ true) × (factor_of f.terms v.symbol ≡ factor v.symbol) × (pos 1 ≤ℤ factor v.symbol)

        has_two : (v : Item) → In v (o ∷ i ∷ []) → Has v
        has_two v (inl e) = subst Has (sym e) (named, counts ∙ sym blocks, omega (arith, ints, blocks, some))
        has_two v (inr (inl e)) = subst Has (sym e) (inner_named, inner_counts ∙ sym once, omega (arith, ints, once))
        has_two v (inr (inr m)) = absurd m

        outer_low : factor o.symbol *ℤ o.low ≡ pos 0
        outer_low = (λ j. blocks j *ℤ low j) ∙ (omega (arith, ints))

        outer_last : factor o.symbol *ℤ o.last ≡ pos (most * size)
        outer_last = (λ j. blocks j *ℤ last j) ∙ (omega (arith, ints))

        in_low : factor i.symbol *ℤ i.low ≡ pos 0
        in_low = (λ j. once j *ℤ inner_low j)

        in_last : factor i.symbol *ℤ i.last ≡ pos size -ℤ pos 1
        in_last = (λ j. once j *ℤ inner_last j) ∙ (omega (arith, ints))

        small_two : unsigned_abs f.constant + ((unsigned_abs (factor o.symbol *ℤ o.low) + unsigned_abs (factor o.symbol *ℤ o.last))
            + ((unsigned_abs (factor i.symbol *ℤ i.low) + unsigned_abs (factor i.symbol *ℤ i.last)) + 0)) ≤ 2 ^ 39
        small_two =
            let number_of : unsigned_abs (pos size -ℤ pos 1) ≤ 1024 = omega (arith, ints, some, few_size) in
            subst (λ (m : ℕ). unsigned_abs f.constant + m ≤ 2 ^ 39)
            (sym (λ j. (unsigned_abs (outer_low j) + unsigned_abs (outer_last j)) + ((unsigned_abs (in_low j) + unsigned_abs (in_last j)) + 0))) (omega (arith, near, few, number_of))

        radix_outer : under factor (factor o.symbol) (o ∷ i ∷ []) ≡ factor o.symbol -ℤ pos 1
        radix_outer =
            let above = above_itself (factor o.symbol) in
            (λ j. (if above j then factor o.symbol *ℤ o.last -ℤ factor o.symbol *ℤ o.low else pos 0)
            +ℤ ((if int_le (once j +ℤ pos 1) (blocks j) then in_last j -ℤ in_low j else pos 0) +ℤ pos 0))
            ∙ of (int_le (pos 1 +ℤ pos 1) (pos size)) refl ∙ ap (λ (z : ℤ). z -ℤ pos 1) (sym blocks)
          where
            of : (b : Bool) → int_le (pos 1 +ℤ pos 1) (pos size) ≡ b → (pos 0 +ℤ ((if b then (pos size -ℤ pos 1) -ℤ pos 0 else pos 0) +ℤ pos 0)) ≡ pos size -ℤ pos 1
            of true e = omega (arith, ints)
            of false e = (let one : size ≤ 1 = short size e in omega (arith, ints, one, some))
              where
                short : (n : ℕ) → int_le (pos 1 +ℤ pos 1) (pos n) ≡ false → n ≤ 1
                short zero k = omega arith
                short (suc zero) k = omega arith
                short (suc (suc n)) k = absurd (cc (sym (is_le (pos 1 +ℤ pos 1) (pos (suc (suc n))) (omega (arith, ints))) ∙ k))

        radix_inner : under factor (factor i.symbol) (o ∷ i ∷ []) ≡ factor i.symbol -ℤ pos 1
        radix_inner =
            let above = above_itself (factor i.symbol) in
            let outer : int_le (factor o.symbol +ℤ pos 1) (factor i.symbol) ≡ false =
            (λ j. int_le (blocks j +ℤ pos 1) (once j)) ∙ not_le (pos size +ℤ pos 1) (pos 1) (omega (arith, ints, some)) in
            (λ j. (if outer j then factor o.symbol *ℤ o.last -ℤ factor o.symbol *ℤ o.low else pos 0)
            +ℤ ((if above j then factor i.symbol *ℤ i.last -ℤ factor i.symbol *ℤ i.low else pos 0) +ℤ pos 0))
            ∙ (let one = once in omega (arith, ints, one))

        radix_two : (v : Item) → In v (o ∷ i ∷ []) → is_lone v ≡ false → under factor (factor v.symbol) (o ∷ i ∷ []) ≡ factor v.symbol -ℤ pos 1
        radix_two v (inl e) k = subst (λ (w : Item). under factor (factor w.symbol) (o ∷ i ∷ []) ≡ factor w.symbol -ℤ pos 1) (sym e) radix_outer
        radix_two v (inr (inl e)) k = subst (λ (w : Item). under factor (factor w.symbol) (o ∷ i ∷ []) ≡ factor w.symbol -ℤ pos 1) (sym e) radix_inner
        radix_two v (inr (inr m)) k = absurd m

        -- where the factors are the same, the inner loop has one turn
        both_same : factor o.symbol ≡ factor i.symbol → is_lone i ≡ true
        both_same e =
            let one : pos size ≡ pos 1 = sym blocks ∙ e ∙ once in
            let ends : i.low ≡ i.last = inner_low ∙ (let count = one in omega (arith, ints, count)) ∙ sym inner_last in
            ap (λ (z : ℤ). int_eq i.low z && true) (sym ends) ∙ ap (λ (b : Bool). b && true) (number_refl i.low)

        clash_of : {A : Type 0} → is_lone i ≡ true → is_lone i ≡ false → A
        clash_of a b = absurd (cc (sym a ∙ b))

        single_two : (v w : Item) → In v (o ∷ i ∷ []) → In w (o ∷ i ∷ []) → is_lone v ≡ false → is_lone w ≡ false → factor v.symbol ≡ factor w.symbol → (v.symbol == w.symbol) ≡ true
        single_two v w (inl e) (inl k) a b q = (λ j. Item.symbol (e j) == Item.symbol (k j)) ∙ eq_refl o.symbol
        single_two v w (inr (inl e)) (inr (inl k)) a b q = (λ j. Item.symbol (e j) == Item.symbol (k j)) ∙ eq_refl i.symbol
        single_two v w (inl e) (inr (inl k)) a b q =
            clash_of (both_same (ap (λ (x : Item). factor x.symbol) (sym e) ∙ q ∙ ap (λ (x : Item). factor x.symbol) k)) (ap is_lone (sym k) ∙ b)
        single_two v w (inr (inl e)) (inl k) a b q =
            clash_of (both_same (ap (λ (x : Item). factor x.symbol) (sym k) ∙ sym q ∙ ap (λ (x : Item). factor x.symbol) e)) (ap is_lone (sym e) ∙ a)
        single_two v w (inr (inr m)) k a b q = absurd m
        single_two v w (inl e) (inr (inr m)) a b q = absurd m
        single_two v w (inr (inl e)) (inr (inr m)) a b q = absurd m

-- ---- the search, over two loops of numbers

abbrev pub two_of : ℤ → ℤ → ℕ → ℤ → ℕ → Form
two_of z c a d b = record { constant = z; terms = multiple a c ∷ multiple b d ∷ [] }

-- of two symbols of which the second is the later one, each has one form that may stand in its place
module _ (scope : List Binding) (a b : ℕ) (less : a < b) (z c d : ℤ) (some_c : is_zero c ≡ false) (some_d : is_zero d ≡ false) (p q : Binding) (there_a : slice_get scope a ≡ Some p)
    (there_b : slice_get scope b ≡ Some q) (e f : Form) (one_a : candidates p c ≡ e ∷ []) (one_b : candidates q d ≡ f ∷ []) (mid r : ℤ)
    (made_b : combined (one_of z c a) d f ≡ Some (one_of mid c a)) (made_a : combined (number mid) c e ≡ Some (number r)) where
  differ : (a == b) ≡ false
  differ = grind (arith, nat_tests, less)

  abbrev form : Form
  form = two_of z c a d b

  factor_b : factor_of form.terms b ≡ d
  factor_b =
      let here = eq_refl b in
      let sum : pos 0 +ℤ (d +ℤ pos 0) ≡ d = omega (arith, ints) in
      (λ j. (if differ j then c else pos 0) +ℤ ((if here j then d else pos 0) +ℤ pos 0)) ∙ sum

  other_factor : (n : ℕ) → b < n → factor_of form.terms n ≡ pos 0
  other_factor n above =
      let one : (a == n) ≡ false = grind (arith, nat_tests, less, above) in
      let two : (b == n) ≡ false = grind (arith, nat_tests, above) in
      λ j. (if one j then c else pos 0) +ℤ ((if two j then d else pos 0) +ℤ pos 0)

  gone : without form b ≡ one_of z c a
  gone =
      let here = eq_refl b in
      λ j. record { constant = z; terms = if not (differ j) then multiple a c ∷ (if not (here j) then multiple b d ∷ [] else []) else (if not (here j) then multiple b d ∷ [] else []) }

  replaced_is : replaced form b d f ≡ Some (one_of mid c a)
  replaced_is = ap (λ (g : Form). combined g d f) gone ∙ made_b

  abbrev branch : Form → Option ℤ
  branch other = option_and_then (λ next. least scope b next) (replaced form b d other)

  abbrev cost : Form → ℕ
  cost other = suc (option_map_or (λ next. replacements scope b next) (replaced form b d other) 0)

  branch_is : branch f ≡ Some r
  branch_is = ap (λ (o : Option Form). option_and_then (λ next. least scope b next) o) replaced_is ∙ least_is scope a mid c r some_c p there_a e one_a made_a b less

  cost_is : cost f ≡ 2
  cost_is =
      ap (λ (o : Option Form). suc (option_map_or (λ next. replacements scope b next) o 0)) replaced_is ∙ ap suc (replacements_are scope a mid c r some_c p there_a e one_a made_a b less)

  result_is : result_at (Some q) d branch ≡ Some r
  result_is = ap (λ (fs : List Form). that_counts (any_may_be q d) (map branch fs)) one_b ∙ branch_is

  total_is : total_at (Some q) d cost ≡ 2
  total_is = ap (λ (fs : List Form). total cost fs) one_b ∙ (let count = cost_is in omega (arith, count))

  at_two : least scope (suc b) form ≡ Some r
  at_two =
      ap (λ (v : ℤ). if is_zero v then least scope b form else result_at (slice_get scope b) v (λ other. option_and_then (λ next. least scope b next) (replaced form b v other))) factor_b
      ∙ ap (λ (v : Bool). if v then least scope b form else result_at (slice_get scope b) d branch) some_d ∙ ap (λ (o : Option Binding). result_at o d branch) there_b ∙ result_is

  count_two : replacements scope (suc b) form ≡ 2
  count_two =
      ap (λ (v : ℤ). if is_zero v then replacements scope b form else total_at (slice_get scope b) v (λ other. suc (option_map_or (λ next. replacements scope b next) (replaced form b v other) 0)))
      factor_b
      ∙ ap (λ (v : Bool). if v then replacements scope b form else total_at (slice_get scope b) d cost) some_d ∙ ap (λ (o : Option Binding). total_at o d cost) there_b ∙ total_is

  pub least_two : (k : ℕ) → least scope (suc (b + k)) form ≡ Some r
  least_two zero = (let none : suc (b + 0) ≡ suc b = omega arith in ap (λ (n : ℕ). least scope n form) none ∙ at_two)
  least_two (suc k) =
      let next : b + suc k ≡ suc (b + k) = omega arith in
      let free = other_factor (suc (b + k)) (omega arith) in
      ap (λ (n : ℕ). least scope (suc n) form) next
      ∙ ap (λ (v : ℤ). if is_zero v then least scope (suc (b + k)) form else result_at (slice_get scope (suc (b + k))) v
      (λ other. option_and_then (λ next. least scope (suc (b + k)) next) (replaced form (suc (b + k)) v other))) free
      ∙ least_two k

  pub replacements_two : (k : ℕ) → replacements scope (suc (b + k)) form ≡ 2
  replacements_two zero = (let none : suc (b + 0) ≡ suc b = omega arith in ap (λ (n : ℕ). replacements scope n form) none ∙ count_two)
  replacements_two (suc k) =
      let next : b + suc k ≡ suc (b + k) = omega arith in
      let free = other_factor (suc (b + k)) (omega arith) in
      ap (λ (n : ℕ). replacements scope (suc n) form) next
      ∙ ap (λ (v : ℤ). if is_zero v then replacements scope (suc (b + k)) form else total_at (slice_get scope (suc (b + k))) v
      (λ other. suc (option_map_or (λ next. replacements scope (suc (b + k)) next) (replaced form (suc (b + k)) v other) 0))) free
      ∙ replacements_two k

  pub found_two : (k : ℕ) → length scope ≡ suc (b + k) → is_within_limits form ≡ true → sup scope form ≡ Some r
  found_two k long limited =
      ap (λ (v : Bool). if v && nat_le (replacements scope (length scope) form) 4096 then least scope (length scope) form else None) limited
      ∙ ap (λ (n : ℕ). if nat_le (replacements scope n form) 4096 then least scope n form else None) long
      ∙ ap (λ (n : ℕ). if nat_le n 4096 then least scope (suc (b + k)) form else None) (replacements_two k) ∙ least_two k

-- ---- limits

pub one_limited : (z c : ℤ) (a : ℕ) → unsigned_abs z ≤ 2 ^ 40 → unsigned_abs c ≤ 2 ^ 20 → is_within_limits (one_of z c a) ≡ true
one_limited z c a near small = (let one = le-leb (unsigned_abs c) (2 ^ 20) small in let two = le-leb (unsigned_abs z) (2 ^ 40) near in λ j. (true && (one j && true)) && two j)

pub two_limited : (z c : ℤ) (a : ℕ) (d : ℤ) (b : ℕ) → unsigned_abs z ≤ 2 ^ 40 → unsigned_abs c ≤ 2 ^ 20 → unsigned_abs d ≤ 2 ^ 20 → is_within_limits (two_of z c a d b) ≡ true
two_limited z c a d b near small other =
    let one = le-leb (unsigned_abs c) (2 ^ 20) small in
    let two = le-leb (unsigned_abs d) (2 ^ 20) other in
    let three = le-leb (unsigned_abs z) (2 ^ 40) near in
    λ j. (true && (one j && (two j && true))) && three j
