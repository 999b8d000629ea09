-- A span over all turns of a loop.
use Rattle.std.proofs.Common.{◌≡◌, ℕ, Bool, true, false, List, [], ◌∷◌, ◌++◌, Some, None, refl, sym, ap, ◌∙◌, subst, inl, inr, arith}
use Rattle.std.specs.Prelude.{ℤ, pos, ◌+ℤ◌, ◌-ℤ◌, ◌*ℤ◌, ◌≤ℤ◌, ◌⊎◌, not, if◌then◌else◌, int_le}
use Rattle.std.specs.List.{AllByRecursion, list_any, list_all}
use Rattle.std.specs.Option.{option_map}
use Rattle.std.specs.Ordering.{int_eq}
use Rattle.std.proofs.lemmas.Int.{ints}
use Rattle.std.proofs.Math.IntN.{*ℤ_comm}
use Rattle.numeric.proofs.Ints.{multiply_order}
use Rattle.lin.specs.Forms.{Form, number, factor_of, combined, plus_multiple, same_terms}
use Rattle.lin.specs.declared.span.Span1.{Span1}
use Rattle.lin.proofs.TermLemmas.{filter-all}
use Rattle.lin.proofs.Limits.{combined-means}
use Rattle.plan.specs.Symbols.{Symbols, bind, form_value}
use Rattle.soundness.specs.Obligations.{form_has, span_has, Lies, LieIn}
use Rattle.soundness.proofs.Forms.{rec_left, rec_right, rec_weaker}
use Rattle.soundness.proofs.Refines.{and_parts, number_true}
use Rattle.soundness.proofs.Sound.{or_left, or_right, or_cases}
use Rattle.tails.specs.Moves.{only, naming, not_naming, joined, each_replaced, is_positive, is_gapless, is_block, span_from, are_blocks, over_turns, over_loop, taken}
use Rattle.tails.proofs.Chosen.{and_then_parts, map_parts, if_parts, some_same, only_part, span_parts}
use Rattle.tails.proofs.Values.{block_of, blocks_rise, times_one, joined_parts, all_both, all_parts, all_of, rest_of, Beside, beside_value, beside_rest, split_value, bind_beside, bound_value, made_all, all_made, made_beside, others_beside, same_terms_sum, int_le_true}

one_times : (m : ℤ) → pos 1 *ℤ m ≡ m
one_times m = *ℤ_comm (pos 1) m ∙ times_one m

rest_last : (f last : Form) (i : ℕ) (m : ℤ) (s : Symbols) → combined f (pos 1) (number m) ≡ Some last → rest_of last i s ≡ rest_of f i s +ℤ m
rest_last f last i m s e =
    let is = (combined-means f (pos 1) (number m) last e).is in
    let one = one_times m in
    let same : rest_of (plus_multiple f (pos 1) (number m)) i s ≡ rest_of f i s +ℤ m = omega (arith, ints, one) in
    ap (λ g. rest_of g i s) is ∙ same

-- a form of the same terms, so much above
above_form : (f u : Form) (s : Symbols) → same_terms u.terms f.terms ≡ true → form_value u s ≡ form_value f s +ℤ (u.constant -ℤ f.constant)
above_form f u s h = let k = same_terms_sum u.terms f.terms s.value h in omega (arith, ints, k)

module _ (exact : Bool) (shows : Form → Form → Bool) (i : ℕ) (x : Span1) where
  pub record Turned (y z : Span1) : Type 0 where
    pub first : Form
    pub last : Form
    pub lows : List Form
    pub highs : List Form
    pub is_first : naming i y.lower ≡ first ∷ []
    pub blocks : are_blocks exact shows first (factor_of first.terms i) (naming i y.upper) ≡ true
    pub is_last : combined first (pos 1) (number (factor_of first.terms i -ℤ pos 1)) ≡ Some last
    pub is_low : each_replaced first i (factor_of first.terms i) x.lower ≡ Some lows
    pub is_high : each_replaced last i (factor_of first.terms i) x.upper ≡ Some highs
    pub lower : z.lower ≡ lows ++ not_naming i y.lower
    pub upper : z.upper ≡ highs ++ not_naming i y.upper

  pub turned_parts : (y z : Span1) → over_loop exact shows i x y ≡ Some z → Turned y z
  turned_parts y z e =
      let a = and_then_parts (λ f. over_turns exact shows i x y f (factor_of f.terms i)) (only (naming i y.lower)) z e in
      let f = a.0 in
      let n = factor_of f.terms i in
      let b = if_parts (are_blocks exact shows f n (naming i y.upper)) _ z a.2 in
      let c = and_then_parts (λ last. span_from (joined (each_replaced f i n x.lower) (Some (not_naming i y.lower))) (joined (each_replaced last i n x.upper) (Some (not_naming i y.upper))))
      (combined f (pos 1) (number (n -ℤ pos 1))) z b.1 in
      let d = span_parts (joined (each_replaced f i n x.lower) (Some (not_naming i y.lower))) (joined (each_replaced c.0 i n x.upper) (Some (not_naming i y.upper))) z c.2 in
      let low = joined_parts (each_replaced f i n x.lower) (Some (not_naming i y.lower)) z.lower d.0 in
      let high = joined_parts (each_replaced c.0 i n x.upper) (Some (not_naming i y.upper)) z.upper d.1 in
      record {
        first = f;
        last = c.0;
        lows = low.left;
        highs = high.left;
        is_first = only_part (naming i y.lower) f a.1;
        blocks = b.0;
        is_last = c.1;
        is_low = low.is_left;
        is_high = high.is_left;
        lower = low.all ∙ ap (λ l. low.left ++ l) (sym (some_same (not_naming i y.lower) low.right low.is_right));
        upper = high.all ∙ ap (λ l. high.left ++ l) (sym (some_same (not_naming i y.upper) high.right high.is_right));
      }

  module _ (y z : Span1) (is : Turned y z) (q : ℤ) where
    n : ℤ
    n = factor_of is.first.terms i

    positive : pos 1 ≤ℤ factor_of is.first.terms i
    positive = int_le_true (pos 1) (factor_of is.first.terms i) (and_parts (is_positive (factor_of is.first.terms i)) _ is.blocks).0

    gapless : AllByRecursion (λ u. is_gapless is.first (factor_of is.first.terms i) u ≡ true) (naming i y.upper)
    gapless = all_of (is_gapless is.first (factor_of is.first.terms i)) (naming i y.upper)
        (and_parts (list_all (is_gapless is.first (factor_of is.first.terms i)) (naming i y.upper)) _ (and_parts (is_positive (factor_of is.first.terms i)) _ is.blocks).1).0

    above_gap : (s : Symbols) (u : Form) → is_gapless is.first (factor_of is.first.terms i) u ≡ true → (form_value is.first s +ℤ (factor_of is.first.terms i -ℤ pos 1)) ≤ℤ form_value u s
    above_gap s u h =
        let k = and_parts (same_terms u.terms is.first.terms) (int_le (is.first.constant +ℤ (factor_of is.first.terms i -ℤ pos 1)) u.constant) h in
        let e = above_form is.first u s k.0 in
        let l = int_le_true (is.first.constant +ℤ (factor_of is.first.terms i -ℤ pos 1)) u.constant k.1 in
        omega (arith, ints, e, l)

    -- a number that is reached is met in some turn
    pub turn_met : (s : Symbols) → Lies s z q → (k : ℤ) × Lies s x k × Lies (bind s i k true) y q
    turn_met s lie =
        let f = is.first in
        let m = factor_of f.terms i in
        let r = rest_of f i s in
        let lower : AllByRecursion (λ l. form_value l s ≤ℤ q) (is.lows ++ not_naming i y.lower) = subst (AllByRecursion (λ l. form_value l s ≤ℤ q)) is.lower lie.0 in
        let upper : AllByRecursion (λ u. q ≤ℤ form_value u s) (is.highs ++ not_naming i y.upper) = subst (AllByRecursion (λ u. q ≤ℤ form_value u s)) is.upper lie.1 in
        let lows = made_all (λ v. v ≤ℤ q) f i m s x.lower is.lows is.is_low (rec_left (λ l. form_value l s ≤ℤ q) is.lows (not_naming i y.lower) lower) in
        let highs = made_all (λ v. q ≤ℤ v) is.last i m s x.upper is.highs is.is_high (rec_left (λ u. q ≤ℤ form_value u s) is.highs (not_naming i y.upper) upper) in
        let far = rest_last f is.last i (m -ℤ pos 1) s is.is_last in
        let b = block_of m (q -ℤ r) positive in
        let k = b.0 in
        let begins = b.1 in
        let ends = b.2 in
        let t = bind s i k true in
        let here = bound_value f i s k true in
        let low_turn : AllByRecursion (λ l. form_value l s ≤ℤ k) x.lower =
        rec_weaker (λ g. (r +ℤ m *ℤ form_value g s) ≤ℤ q) (λ l. form_value l s ≤ℤ k) (λ g h. blocks_rise m (form_value g s) k positive (omega (arith, ints, h, ends))) x.lower lows in
        let high_turn : AllByRecursion (λ u. k ≤ℤ form_value u s) x.upper =
        rec_weaker (λ g. q ≤ℤ (rest_of is.last i s +ℤ m *ℤ form_value g s)) (λ u. k ≤ℤ form_value u s) (λ g h. blocks_rise m k (form_value g s) positive (omega (arith, ints, h, begins, far))) x.upper highs in
        let low_first : form_value f t ≤ℤ q = omega (arith, ints, here, begins) in
        let high_first : q ≤ℤ (form_value f t +ℤ (m -ℤ pos 1)) = omega (arith, ints, here, ends) in
        let low_naming : AllByRecursion (λ l. form_value l t ≤ℤ q) (naming i y.lower) = subst (AllByRecursion (λ l. form_value l t ≤ℤ q)) (sym is.is_first) (low_first, tt) in
        let high_naming : AllByRecursion (λ u. q ≤ℤ form_value u t) (naming i y.upper) =
        rec_weaker (λ u. is_gapless f m u ≡ true) (λ u. q ≤ℤ form_value u t) (λ u h. let g = above_gap t u h in omega (arith, ints, g, high_first)) (naming i y.upper) gapless in (
          k,
          (low_turn, high_turn),
          (
            all_parts (λ l. form_value l t ≤ℤ q) (form_has i) y.lower low_naming
                (others_beside (λ v. v ≤ℤ q) i s t (bind_beside s i k true) y.lower (rec_right (λ l. form_value l s ≤ℤ q) is.lows (not_naming i y.lower) lower)),
            all_parts (λ u. q ≤ℤ form_value u t) (form_has i) y.upper high_naming
                (others_beside (λ v. q ≤ℤ v) i s t (bind_beside s i k true) y.upper (rec_right (λ u. q ≤ℤ form_value u s) is.highs (not_naming i y.upper) upper)),
          ),
        )

    -- the span is not told by the symbol
    pub turn_free : (s t : Symbols) → Beside i s t → span_has i x ≡ false → Lies s z q → Lies t z q
    turn_free s t h lacks lie =
        let f = is.first in
        let m = factor_of f.terms i in
        let lower : AllByRecursion (λ l. form_value l s ≤ℤ q) (is.lows ++ not_naming i y.lower) = subst (AllByRecursion (λ l. form_value l s ≤ℤ q)) is.lower lie.0 in
        let upper : AllByRecursion (λ u. q ≤ℤ form_value u s) (is.highs ++ not_naming i y.upper) = subst (AllByRecursion (λ u. q ≤ℤ form_value u s)) is.upper lie.1 in (
          subst (AllByRecursion (λ l. form_value l t ≤ℤ q)) (sym is.lower)
              (all_both (λ l. form_value l t ≤ℤ q) is.lows (not_naming i y.lower)
              (made_beside (λ v. v ≤ℤ q) f i m s t h x.lower is.lows (or_left (list_any (form_has i) x.lower) (list_any (form_has i) x.upper) lacks) is.is_low
              (rec_left (λ l. form_value l s ≤ℤ q) is.lows (not_naming i y.lower) lower))
              (others_beside (λ v. v ≤ℤ q) i s t h y.lower (rec_right (λ l. form_value l s ≤ℤ q) is.lows (not_naming i y.lower) lower))),
          subst (AllByRecursion (λ u. q ≤ℤ form_value u t)) (sym is.upper)
              (all_both (λ u. q ≤ℤ form_value u t) is.highs (not_naming i y.upper)
              (made_beside (λ v. q ≤ℤ v) is.last i m s t h x.upper is.highs (or_right (list_any (form_has i) x.lower) (list_any (form_has i) x.upper) lacks) is.is_high
              (rec_left (λ u. q ≤ℤ form_value u s) is.highs (not_naming i y.upper) upper))
              (others_beside (λ v. q ≤ℤ v) i s t h y.upper (rec_right (λ u. q ≤ℤ form_value u s) is.highs (not_naming i y.upper) upper))),
        )

    -- the beginning of the block that the number is in
    pub turn_begins : (s : Symbols) → Lies s y q → form_value is.first s ≤ℤ q
    turn_begins s lie =
        let one : AllByRecursion (λ l. form_value l s ≤ℤ q) (is.first ∷ []) =
        subst (AllByRecursion (λ l. form_value l s ≤ℤ q)) is.is_first (filter-all (λ l. form_value l s ≤ℤ q) (form_has i) y.lower lie.0) in
        one.0

module _ (shows : Form → Form → Bool) (i : ℕ) (x : Span1) (y z : Span1) (is : Turned true shows i x y z) (q : ℤ) where
  -- and its end, where blocks are just so long
  any_block : (s : Symbols) (us : List Form) → list_any (is_block is.first (factor_of is.first.terms i)) us ≡ true → AllByRecursion (λ u. q ≤ℤ form_value u s) us → q ≤ℤ (form_value is.first s +ℤ (factor_of is.first.terms i -ℤ pos 1))
  any_block s [] h k = absurd (cc h)
  any_block s (u ∷ us) h k = of (or_cases (is_block is.first (factor_of is.first.terms i) u) (list_any (is_block is.first (factor_of is.first.terms i)) us) h) (λ j. any_block s us j k.1)
    where
      of : (is_block is.first (factor_of is.first.terms i) u ≡ true) ⊎ (list_any (is_block is.first (factor_of is.first.terms i)) us ≡ true) →
          (list_any (is_block is.first (factor_of is.first.terms i)) us ≡ true → q ≤ℤ (form_value is.first s +ℤ (factor_of is.first.terms i -ℤ pos 1))) →
          q ≤ℤ (form_value is.first s +ℤ (factor_of is.first.terms i -ℤ pos 1))
      of (inl j) rest =
          let a = and_parts (same_terms u.terms is.first.terms) (int_eq (is.first.constant +ℤ (factor_of is.first.terms i -ℤ pos 1)) u.constant) j in
          let e = above_form is.first u s a.0 in
          let l : is.first.constant +ℤ (factor_of is.first.terms i -ℤ pos 1) ≡ u.constant = number_true (is.first.constant +ℤ (factor_of is.first.terms i -ℤ pos 1)) u.constant a.1 in
          let here = k.0 in
          omega (arith, ints, e, l, here)
      of (inr j) rest = rest j

  turn_ends : (s : Symbols) → Lies s y q → q ≤ℤ (form_value is.first s +ℤ (factor_of is.first.terms i -ℤ pos 1))
  turn_ends s lie =
      any_block s (naming i y.upper) (and_parts (list_all (is_gapless is.first (factor_of is.first.terms i)) (naming i y.upper)) _ (and_parts (is_positive (factor_of is.first.terms i)) _ is.blocks).1).1
      (filter-all (λ u. q ≤ℤ form_value u s) (form_has i) y.upper lie.1)

  -- what is in a turn's block is in the span over all turns
  pub turn_within : (s : Symbols) → Lies s x (s.value i) → Lies s y q → Lies s z q
  turn_within s turn lie =
      let f = is.first in
      let m = factor_of f.terms i in
      let r = rest_of f i s in
      let begins = turn_begins true shows i x y z is q s lie in
      let ends = turn_ends s lie in
      let here = split_value f i s in
      let sign = positive true shows i x y z is q in
      let far = rest_last f is.last i (m -ℤ pos 1) s is.is_last in
      let lows : AllByRecursion (λ g. (r +ℤ m *ℤ form_value g s) ≤ℤ q) x.lower =
      rec_weaker (λ g. form_value g s ≤ℤ s.value i) (λ g. (r +ℤ m *ℤ form_value g s) ≤ℤ q)
      (λ g h. let k = multiply_order m (form_value g s) (s.value i) (omega (arith, ints, sign)) h in omega (arith, ints, k, begins, here)) x.lower turn.0 in
      let highs : AllByRecursion (λ g. q ≤ℤ (rest_of is.last i s +ℤ m *ℤ form_value g s)) x.upper =
      rec_weaker (λ g. s.value i ≤ℤ form_value g s) (λ g. q ≤ℤ (rest_of is.last i s +ℤ m *ℤ form_value g s))
      (λ g h. let k = multiply_order m (s.value i) (form_value g s) (omega (arith, ints, sign)) h in omega (arith, ints, k, ends, here, far)) x.upper turn.1 in (
        subst (AllByRecursion (λ l. form_value l s ≤ℤ q)) (sym is.lower)
            (all_both (λ l. form_value l s ≤ℤ q) is.lows (not_naming i y.lower) (all_made (λ v. v ≤ℤ q) f i m s x.lower is.lows is.is_low lows)
            (filter-all (λ l. form_value l s ≤ℤ q) (λ g. not (form_has i g)) y.lower lie.0)),
        subst (AllByRecursion (λ u. q ≤ℤ form_value u s)) (sym is.upper)
            (all_both (λ u. q ≤ℤ form_value u s) is.highs (not_naming i y.upper) (all_made (λ v. q ≤ℤ v) is.last i m s x.upper is.highs is.is_high highs)
            (filter-all (λ u. q ≤ℤ form_value u s) (λ g. not (form_has i g)) y.upper lie.1)),
      )

  -- a number is met in one turn alone
  pub turn_fixed : (s t : Symbols) → Beside i s t → Lies s y q → Lies t y q → t.value i ≡ s.value i
  turn_fixed s t h a b =
      let f = is.first in
      let m = factor_of f.terms i in
      let sign = positive true shows i x y z is q in
      let rest = beside_rest f i s t h in
      let s_here = split_value f i s in
      let t_here = split_value f i t in
      let s_low = turn_begins true shows i x y z is q s a in
      let t_low = turn_begins true shows i x y z is q t b in
      let s_high = turn_ends s a in
      let t_high = turn_ends t b in
      let one = blocks_rise m (t.value i) (s.value i) sign (omega (arith, ints, rest, s_here, t_here, t_low, s_high)) in
      let other = blocks_rise m (s.value i) (t.value i) sign (omega (arith, ints, rest, s_here, t_here, s_low, t_high)) in
      omega (arith, ints, one, other)

-- ---- all coordinates

pub lies_beside : (i : ℕ) (s t : Symbols) → Beside i s t → (y : Span1) (q : ℤ) → span_has i y ≡ false → Lies s y q → Lies t y q
lies_beside i s t h y q lacks lie = (
  on (λ v. v ≤ℤ q) y.lower (or_left (list_any (form_has i) y.lower) (list_any (form_has i) y.upper) lacks) lie.0,
  on (λ v. q ≤ℤ v) y.upper (or_right (list_any (form_has i) y.lower) (list_any (form_has i) y.upper) lacks) lie.1,
)
  where
    on : (P : ℤ → Type 0) (fs : List Form) → list_any (form_has i) fs ≡ false → AllByRecursion (λ f. P (form_value f s)) fs → AllByRecursion (λ f. P (form_value f t)) fs
    on P [] lacks k = tt
    on P (f ∷ fs) lacks k = (subst P (sym (beside_value f i s t h (or_left (form_has i f) (list_any (form_has i) fs) lacks))) k.0, on P fs (or_right (form_has i f) (list_any (form_has i) fs) lacks) k.1)

pub lie_beside : (i : ℕ) (s t : Symbols) → Beside i s t → (ys : List Span1) (p : List ℤ) → list_any (span_has i) ys ≡ false → LieIn s ys p → LieIn t ys p
lie_beside i s t h [] [] lacks lie = tt
lie_beside i s t h [] (q ∷ qs) lacks lie = absurd lie
lie_beside i s t h (y ∷ ys) [] lacks lie = absurd lie
lie_beside i s t h (y ∷ ys) (q ∷ qs) lacks lie =
    (lies_beside i s t h y q (or_left (span_has i y) (list_any (span_has i) ys) lacks) lie.0, lie_beside i s t h ys qs (or_right (span_has i y) (list_any (span_has i) ys) lacks) lie.1)

module _ (exact : Bool) (shows : Form → Form → Bool) (i : ℕ) (x : Span1) where
  -- the first coordinate is the loop's, or a later one
  record Here (y : Span1) (ys zs : List Span1) : Type 0 where
    pub alone : list_any (span_has i) ys ≡ false
    pub made : Span1
    pub is : over_loop exact shows i x y ≡ Some made
    pub all : zs ≡ made ∷ ys

  record Later (y : Span1) (ys zs : List Span1) : Type 0 where
    pub free : span_has i y ≡ false
    pub made : List Span1
    pub is : taken exact shows i x ys ≡ Some made
    pub all : zs ≡ y ∷ made

  taken_parts : (y : Span1) (ys zs : List Span1) → taken exact shows i x (y ∷ ys) ≡ Some zs → Here y ys zs ⊎ Later y ys zs
  taken_parts y ys zs e = of (span_has i y) refl (list_any (span_has i) ys) refl e
    where
      of : (v : Bool) → span_has i y ≡ v → (w : Bool) → list_any (span_has i) ys ≡ w →
          (if v then (if w then None else option_map (λ z. z ∷ ys) (over_loop exact shows i x y)) else option_map (λ zs. y ∷ zs) (taken exact shows i x ys)) ≡ Some zs → Here y ys zs ⊎ Later y ys zs
      of true h true k e = absurd (cc e)
      of true h false k e = let m = map_parts (λ z. z ∷ ys) (over_loop exact shows i x y) zs e in inl (record { alone = k; made = m.0; is = m.1; all = sym m.2 })
      of false h w k e = let m = map_parts (λ zs. y ∷ zs) (taken exact shows i x ys) zs e in inr (record { free = h; made = m.0; is = m.1; all = sym m.2 })

  -- a point that is reached is met in some turn
  pub turns_met : (s : Symbols) (ys zs : List Span1) (p : List ℤ) → taken exact shows i x ys ≡ Some zs → LieIn s zs p → (k : ℤ) × Lies s x k × LieIn (bind s i k true) ys p
  turns_met s [] zs p e lie = absurd (cc e)
  turns_met s (y ∷ ys) zs p e lie = of p (taken_parts y ys zs e) lie (λ zs p e lie. turns_met s ys zs p e lie)
    where
      of : (p : List ℤ) → Here y ys zs ⊎ Later y ys zs → LieIn s zs p → ((zs : List Span1) (p : List ℤ) → taken exact shows i x ys ≡ Some zs → LieIn s zs p → (k : ℤ) × Lies s x k × LieIn (bind s i k true) ys p) →
          (k : ℤ) × Lies s x k × LieIn (bind s i k true) (y ∷ ys) p
      of [] (inl h) lie rest = absurd (subst (λ zs. LieIn s zs []) h.all lie)
      of [] (inr h) lie rest = absurd (subst (λ zs. LieIn s zs []) h.all lie)
      of (q ∷ qs) (inl h) lie rest =
          let both : LieIn s (h.made ∷ ys) (q ∷ qs) = subst (λ zs. LieIn s zs (q ∷ qs)) h.all lie in
          let met = turn_met exact shows i x y h.made (turned_parts exact shows i x y h.made h.is) q s both.0 in
          (met.0, met.1, (met.2, lie_beside i s (bind s i met.0 true) (bind_beside s i met.0 true) ys qs h.alone both.1))
      of (q ∷ qs) (inr h) lie rest =
          let both : LieIn s (y ∷ h.made) (q ∷ qs) = subst (λ zs. LieIn s zs (q ∷ qs)) h.all lie in
          let met = rest h.made qs h.is both.1 in
          (met.0, met.1, (lies_beside i s (bind s i met.0 true) (bind_beside s i met.0 true) y q h.free both.0, met.2))

module _ (shows : Form → Form → Bool) (i : ℕ) (x : Span1) where
  pub turns_within : (s : Symbols) → Lies s x (s.value i) → (ys zs : List Span1) (p : List ℤ) → taken true shows i x ys ≡ Some zs → LieIn s ys p → LieIn s zs p
  turns_within s turn [] zs p e lie = absurd (cc e)
  turns_within s turn (y ∷ ys) zs [] e lie = absurd lie
  turns_within s turn (y ∷ ys) zs (q ∷ qs) e lie = of (taken_parts true shows i x y ys zs e) (λ zs e. turns_within s turn ys zs qs e lie.1)
    where
      of : Here true shows i x y ys zs ⊎ Later true shows i x y ys zs → ((zs : List Span1) → taken true shows i x ys ≡ Some zs → LieIn s zs qs) → LieIn s zs (q ∷ qs)
      of (inl h) rest = subst (λ zs. LieIn s zs (q ∷ qs)) (sym h.all) (turn_within shows i x y h.made (turned_parts true shows i x y h.made h.is) q s turn lie.0, lie.1)
      of (inr h) rest = subst (λ zs. LieIn s zs (q ∷ qs)) (sym h.all) (lie.0, rest h.made h.is)

  pub turns_free : (s t : Symbols) → Beside i s t → span_has i x ≡ false → (ys zs : List Span1) (p : List ℤ) → taken true shows i x ys ≡ Some zs → LieIn s zs p → LieIn t zs p
  turns_free s t b lacks [] zs p e lie = absurd (cc e)
  turns_free s t b lacks (y ∷ ys) zs p e lie = of p (taken_parts true shows i x y ys zs e) lie (λ zs p e lie. turns_free s t b lacks ys zs p e lie)
    where
      of : (p : List ℤ) → Here true shows i x y ys zs ⊎ Later true shows i x y ys zs → LieIn s zs p → ((zs : List Span1) (p : List ℤ) → taken true shows i x ys ≡ Some zs → LieIn s zs p → LieIn t zs p) → LieIn t zs p
      of [] (inl h) lie rest = absurd (subst (λ zs. LieIn s zs []) h.all lie)
      of [] (inr h) lie rest = absurd (subst (λ zs. LieIn s zs []) h.all lie)
      of (q ∷ qs) (inl h) lie rest =
          let both : LieIn s (h.made ∷ ys) (q ∷ qs) = subst (λ zs. LieIn s zs (q ∷ qs)) h.all lie in
          subst (λ zs. LieIn t zs (q ∷ qs)) (sym h.all) (turn_free true shows i x y h.made (turned_parts true shows i x y h.made h.is) q s t b lacks both.0, lie_beside i s t b ys qs h.alone both.1)
      of (q ∷ qs) (inr h) lie rest =
          let both : LieIn s (y ∷ h.made) (q ∷ qs) = subst (λ zs. LieIn s zs (q ∷ qs)) h.all lie in
          subst (λ zs. LieIn t zs (q ∷ qs)) (sym h.all) (lies_beside i s t b y q h.free both.0, rest h.made qs h.is both.1)

  pub turns_fixed : (s t : Symbols) → Beside i s t → (ys zs : List Span1) (p : List ℤ) → taken true shows i x ys ≡ Some zs → LieIn s ys p → LieIn t ys p → t.value i ≡ s.value i
  turns_fixed s t b [] zs p e k l = absurd (cc e)
  turns_fixed s t b (y ∷ ys) zs [] e k l = absurd k
  turns_fixed s t b (y ∷ ys) zs (q ∷ qs) e k l = of (taken_parts true shows i x y ys zs e) (λ zs e. turns_fixed s t b ys zs qs e k.1 l.1)
    where
      of : Here true shows i x y ys zs ⊎ Later true shows i x y ys zs → ((zs : List Span1) → taken true shows i x ys ≡ Some zs → t.value i ≡ s.value i) → t.value i ≡ s.value i
      of (inl h) rest = turn_fixed shows i x y h.made (turned_parts true shows i x y h.made h.is) q s t b k.0 l.0
      of (inr h) rest = rest h.made h.is
