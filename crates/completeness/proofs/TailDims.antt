-- What `lower` makes of the numbers of a loop that is split once, with any tail: their end, their places, and what claims speak of.
use Rattle.std.proofs.Common.{◌≡◌, ℕ, ◌+◌, ◌*◌, ◌^◌, ◌<◌, ◌≤◌, Bool, true, false, ◌||◌, not, List, [], ◌∷◌, Some, None, refl, ap, ◌∙◌, arith}
use Rattle.std.specs.Prelude.{ℤ, pos, negsuc, ◌+ℤ◌, ◌-ℤ◌, ◌*ℤ◌, ◌≤ℤ◌, ◌==◌, ◌%◌, if◌then◌else◌}
use Rattle.std.specs.Option.{option_map}
use Rattle.std.proofs.lemmas.Bool.Decides.{nat_tests}
use Rattle.std.proofs.lemmas.Int.{ints}
use Rattle.lin.specs.Forms.{Form, number, in_front}
use Rattle.plan.specs.declared.stmt.Places.TheVariants.{From}
use Rattle.sched.specs.declared.schedule.Split.{Split}
use Rattle.sched.specs.declared.schedule.Tail.{Tail}
use Rattle.sched.specs.declared.schedule.Tail.TheVariants.{Guard, Roundup, Shift}
use Rattle.sched.specs.declared.numbers.Numbers.{Numbers}
use Rattle.sched.specs.Numbers.{numbers_named, last_number}
use Rattle.sched.specs.Standing.{form_named, has_rest, counted_from}
use Rattle.blocks.specs.Blocks.{sum, product, stepped, multiple_from, raised, split_end, split_claim_end, end_of, BlockText, Run, LayText, own_last, claim_last}
use Rattle.sched.specs.Blocks.{difference, factor_of}
use Rattle.blocks.specs.Blocks.{with_last, reach_over, places_by, block_span, blocks_by, dimension_by}
use Rattle.lower.proofs.Blocking.{IsSmall, CutFits}
use Rattle.lower.proofs.Dividing.{nearest, nearest_of_small}
use Rattle.completeness.specs.Blocked.{is_tailed}
use Rattle.completeness.proofs.Searched.{one_of}
use Rattle.completeness.proofs.BlockSums.{multiple, start_is, some_factor}
use Rattle.completeness.proofs.BlockDims.{top, blocks_top, top_low, top_high, top_full}
use Rattle.completeness.proofs.TailTurns.{is_shifted}

-- ---- ends

module _ (rs : List Numbers) (c : Split) (fits : CutFits rs c) (small : IsSmall (numbers_named rs c.whole)) (some : 0 <
    (numbers_named rs c.whole).count) where
  abbrev own : Numbers
  own = numbers_named rs c.whole

  abbrev t : ℕ
  t = top own.count c.factor

  -- the last number of the last block
  abbrev pub last_of : ℤ
  last_of = own.low +ℤ (pos (t * c.factor) +ℤ (pos c.factor -ℤ pos 1))

  pub outer_low : (numbers_named rs c.outer).low ≡ pos 0
  outer_low = ap (λ (r : Numbers). r.low) fits.outer

  pub outer_last : last_number (numbers_named rs c.outer) ≡ pos t
  outer_last = (let are = blocks_top own.count c.factor some fits.some in ap last_number fits.outer ∙ omega (arith, ints, are))

  pub inner_low : (numbers_named rs c.inner).low ≡ pos 0
  inner_low = ap (λ (r : Numbers). r.low) fits.inner

  pub inner_last : last_number (numbers_named rs c.inner) ≡ pos c.factor -ℤ pos 1
  inner_last = ap last_number fits.inner ∙ omega (arith, ints)

  pub few_numbers : t * c.factor ≤ 2 ^ 32
  few_numbers = (let low = top_low own.count c.factor some fits.some in let few = small.few in omega (arith, low, few))

  times : pos c.factor *ℤ pos t ≡ pos (t * c.factor)
  times = omega (arith, ints)

  -- what lower makes of the end of all blocks
  steps_are : (inner : ℤ) → inner ≡ pos c.factor -ℤ pos 1 → sum (stepped own.low (factor_of c) (last_number (numbers_named rs c.outer))) inner ≡ last_of
  steps_are inner is =
      let from = small.from in
      let to = small.to in
      let few = few_numbers in
      let wide = fits.few in
      let size = fits.some in
      let one : product (pos c.factor) (pos t) ≡ pos (t * c.factor) =
      ap nearest times ∙ nearest_of_small (pos (t * c.factor)) (omega (arith, ints)) (omega (arith, ints, few)) in
      let two : stepped own.low (pos c.factor) (pos t) ≡ own.low +ℤ pos (t * c.factor) =
      ap (λ (z : ℤ). nearest (own.low +ℤ z)) one ∙ nearest_of_small (own.low +ℤ pos (t * c.factor)) (by_low own.low (t * c.factor) from) (by_high own.low (t * c.factor) to few) in
      ap (λ (z : ℤ). sum (stepped own.low (factor_of c) z) inner) outer_last ∙ (λ j. nearest (two j +ℤ is j))
      ∙ nearest_of_small ((own.low +ℤ pos (t * c.factor)) +ℤ (pos c.factor -ℤ pos 1)) (all_low own.low (t * c.factor) c.factor from) (all_high own.low (t * c.factor) c.factor to few wide)
      ∙ regrouped own.low (pos (t * c.factor)) (pos c.factor -ℤ pos 1)
    where
      regrouped : (a b d : ℤ) → ((a +ℤ b) +ℤ d) ≡ a +ℤ (b +ℤ d)
      regrouped a b d = omega (arith, ints)

      by_low : (z : ℤ) (m : ℕ) → negsuc 2147483647 ≤ℤ z → negsuc 4398046511104 ≤ℤ (z +ℤ pos m)
      by_low z m h = omega (arith, ints, h)

      by_high : (z : ℤ) (m : ℕ) → z ≤ℤ pos 2147483647 → m ≤ 2 ^ 32 → (z +ℤ pos m) ≤ℤ pos 4398046511104
      by_high z m h k = omega (arith, ints, h, k)

      all_low : (z : ℤ) (m n : ℕ) → negsuc 2147483647 ≤ℤ z → negsuc 4398046511104 ≤ℤ ((z +ℤ pos m) +ℤ (pos n -ℤ pos 1))
      all_low z m n h = omega (arith, ints, h)

      all_high : (z : ℤ) (m n : ℕ) → z ≤ℤ pos 2147483647 → m ≤ 2 ^ 32 → n ≤ 1024 → ((z +ℤ pos m) +ℤ (pos n -ℤ pos 1)) ≤ℤ pos 4398046511104
      all_high z m n h k q = omega (arith, ints, h, k, q)

  -- where all blocks are full, the last number is that of the loop
  pub full_last : has_rest c own.count ≡ false → last_number own ≡ last_of
  full_last e =
      let none = no_rest c.factor own.count e in
      let high = top_high own.count c.factor some fits.some in
      let full = top_full own.count c.factor some fits.some none in
      by own.low own.count (t * c.factor) c.factor high full
    where
      no_rest : (n m : ℕ) → ((n == 0) || not (m % n == 0)) ≡ false → m % n ≡ 0
      no_rest n m q = of (n == 0) (m % n == 0) refl q
        where
          of : (a b : Bool) → (m % n == 0) ≡ b → (a || not b) ≡ false → m % n ≡ 0
          of true b k r = absurd (cc r)
          of false false k r = absurd (cc r)
          of false true k r = grind (arith, nat_tests, k)

      by : (z : ℤ) (m p n : ℕ) → m ≤ p + n → p + n ≤ m → z +ℤ pos m -ℤ pos 1 ≡ z +ℤ (pos p +ℤ (pos n -ℤ pos 1))
      by z m p n le ge = omega (arith, ints, le, ge)

  pub reaches : last_number own ≤ℤ last_of
  reaches = (let high = top_high own.count c.factor some fits.some in by own.low own.count (t * c.factor) c.factor high)
    where
      by : (z : ℤ) (m p n : ℕ) → m ≤ p + n → (z +ℤ pos m -ℤ pos 1) ≤ℤ (z +ℤ (pos p +ℤ (pos n -ℤ pos 1)))
      by z m p n le = omega (arith, ints, le)

  -- a guard keeps the numbers within the loop
  abbrev pub end_of_all : ℤ
  end_of_all = if is_tailed rs c then last_number own else last_of

  abbrev pub all_of : ℕ
  all_of = if is_tailed rs c then own.count else t * c.factor + c.factor

  abbrev pub kept_cap : List Form
  kept_cap = if is_tailed rs c then number (last_number own) ∷ [] else []

  abbrev Unshifted : Tail → Type 0
  Unshifted tail = (elim tail [ Guard ↦ false | Roundup ↦ false | Shift ↦ true ]) ≡ false

  abbrev end_by : Tail → ℤ
  end_by tail = if (elim tail [ Guard ↦ has_rest c own.count | Roundup ↦ false | Shift ↦ true ]) then last_number own else last_of

  guarded_end : last_number own ≡ (if has_rest c own.count then last_number own else last_of)
  guarded_end = of (has_rest c own.count) refl
    where
      of : (b : Bool) → has_rest c own.count ≡ b → last_number own ≡ (if b then last_number own else last_of)
      of true e = refl
      of false e = full_last e

  -- so many numbers from the first one on to that end
  pub counted : (pos all_of -ℤ pos 1) +ℤ own.low ≡ end_of_all
  counted = of (is_tailed rs c)
    where
      of : (b : Bool) → (pos (if b then own.count else t * c.factor + c.factor) -ℤ pos 1) +ℤ own.low ≡ (if b then last_number own else last_of)
      of true = by own.low own.count
        where
          by : (z : ℤ) (m : ℕ) → (pos m -ℤ pos 1) +ℤ z ≡ z +ℤ pos m -ℤ pos 1
          by z m = omega (arith, ints)
      of false = by own.low (t * c.factor) c.factor
        where
          by : (z : ℤ) (p n : ℕ) → (pos (p + n) -ℤ pos 1) +ℤ z ≡ z +ℤ (pos p +ℤ (pos n -ℤ pos 1))
          by z p n = omega (arith, ints)

  -- the end of what is visited
  pub end_is : split_end c own (last_number (numbers_named rs c.outer)) (last_number (numbers_named rs c.inner)) ≡ end_of_all
  unfolding split_end
  end_is = of c.tail
    where
      full : difference (factor_of c) (pos 1) ≡ pos c.factor -ℤ pos 1
      full = (let wide = fits.few in let size = fits.some in nearest_of_small (pos c.factor -ℤ pos 1) (omega (arith, ints, size)) (omega (arith, ints, wide)))

      shifted_end : sum (difference (last_number own) (difference (factor_of c) (pos 1))) (last_number (numbers_named rs c.inner)) ≡ last_number own
      shifted_end =
          let from = small.from in
          let to = small.to in
          let wide = fits.few in
          let size = fits.some in
          let counts = small.few in
          let one : difference (last_number own) (pos c.factor -ℤ pos 1) ≡ last_number own -ℤ (pos c.factor -ℤ pos 1) =
          nearest_of_small (last_number own -ℤ (pos c.factor -ℤ pos 1)) (low_end own.low own.count c.factor from wide) (high_end own.low own.count c.factor to counts size) in
          (λ j. sum (difference (last_number own) (full j)) (inner_last j)) ∙ ap (λ (z : ℤ). sum z (pos c.factor -ℤ pos 1)) one
          ∙ ap nearest (back (last_number own) (pos c.factor -ℤ pos 1))
          ∙ nearest_of_small (last_number own) (own_low own.low own.count from) (own_high own.low own.count to counts)
        where
          back : (z y : ℤ) → ((z -ℤ y) +ℤ y) ≡ z
          back z y = omega (arith, ints)

          low_end : (z : ℤ) (m n : ℕ) → negsuc 2147483647 ≤ℤ z → n ≤ 1024 → negsuc 4398046511104 ≤ℤ ((z +ℤ pos m -ℤ pos 1) -ℤ (pos n -ℤ pos 1))
          low_end z m n h k = omega (arith, ints, h, k)

          high_end : (z : ℤ) (m n : ℕ) → z ≤ℤ pos 2147483647 → m < 4294967296 → 0 < n → ((z +ℤ pos m -ℤ pos 1) -ℤ (pos n -ℤ pos 1)) ≤ℤ pos 4398046511104
          high_end z m n h k q = omega (arith, ints, h, k, q)

          own_low : (z : ℤ) (m : ℕ) → negsuc 2147483647 ≤ℤ z → negsuc 4398046511104 ≤ℤ (z +ℤ pos m -ℤ pos 1)
          own_low z m h = omega (arith, ints, h)

          own_high : (z : ℤ) (m : ℕ) → z ≤ℤ pos 2147483647 → m < 4294967296 → (z +ℤ pos m -ℤ pos 1) ≤ℤ pos 4398046511104
          own_high z m h k = omega (arith, ints, h, k)

      of : (tail : Tail) → (elim tail [
        | Guard ↦ last_number own
        | Roundup ↦ sum (stepped own.low (factor_of c) (last_number (numbers_named rs c.outer))) (last_number (numbers_named rs c.inner))
        | Shift ↦ sum (difference (last_number own) (difference (factor_of c) (pos 1))) (last_number (numbers_named rs c.inner))
      ]) ≡ end_by tail
      of Guard = guarded_end
      of Roundup = steps_are (last_number (numbers_named rs c.inner)) inner_last
      of Shift = shifted_end

  -- and of what claims speak of
  pub claim_is : split_claim_end c own (last_number (numbers_named rs c.outer)) ≡ end_of_all
  unfolding split_claim_end
  claim_is = of c.tail
    where
      full : difference (factor_of c) (pos 1) ≡ pos c.factor -ℤ pos 1
      full = (let wide = fits.few in let size = fits.some in nearest_of_small (pos c.factor -ℤ pos 1) (omega (arith, ints, size)) (omega (arith, ints, wide)))

      of : (tail : Tail) → (elim tail [
        | Guard ↦ last_number own
        | Roundup ↦ sum (stepped own.low (factor_of c) (last_number (numbers_named rs c.outer))) (difference (factor_of c) (pos 1))
        | Shift ↦ last_number own
      ]) ≡ end_by tail
      of Guard = guarded_end
      of Roundup = steps_are (difference (factor_of c) (pos 1)) full
      of Shift = refl

  -- ---- a block

  module _ (l : LayText) (is : l.numbers ≡ rs) (s : ℕ) (rest : List Split) (inner_end : end_of l.numbers c.inner rest ≡ last_number (numbers_named l.numbers c.inner)) where
    -- the turn of the parallel outer loop
    abbrev turn_of : BlockText
    turn_of = record { start = counted_from (pos 0) s; length = pos 1; own_limits = []; claim_limits = []; origin = Some (counted_from (pos 0) s); reach = pos 1 }

    abbrev block_of : BlockText
    block_of = blocks_by l c rest turn_of own

    start_so : block_of.start ≡ one_of own.low (pos c.factor) s
    start_so = start_is own.low c.factor s fits.some

    one_factor : product (factor_of c) (pos 1) ≡ pos c.factor
    one_factor = (let wide = fits.few in ap nearest (one_time (pos c.factor)) ∙ nearest_of_small (pos c.factor) (omega (arith, ints)) (omega (arith, ints, wide)))
      where
        one_time : (z : ℤ) → z *ℤ pos 1 ≡ z
        one_time z = omega (arith, ints)

    size_less : difference (product (factor_of c) (pos 1)) (pos 1) ≡ pos c.factor -ℤ pos 1
    size_less =
        let wide = fits.few in
        let size = fits.some in
        ap (λ (z : ℤ). nearest (z -ℤ pos 1)) one_factor ∙ nearest_of_small (pos c.factor -ℤ pos 1) (omega (arith, ints, size)) (omega (arith, ints, wide))

    -- the first number, the last one of a full block, and what is kept
    claim_by : (cap : List Form) → with_last [] (claim_last c own) ≡ cap → block_span block_of.start block_of.length block_of.claim_limits
        ≡ record { lower = one_of own.low (pos c.factor) s ∷ []; upper = one_of ((pos c.factor -ℤ pos 1) +ℤ own.low) (pos c.factor) s ∷ cap }
    claim_by cap limits =
        let there = some_factor c.factor fits.some in
        let once : pos 1 *ℤ pos c.factor ≡ pos c.factor = omega (arith, ints) in
        let up : (pos c.factor -ℤ pos 1) +ℤ pos 1 *ℤ own.low ≡ (pos c.factor -ℤ pos 1) +ℤ own.low = ap (λ (z : ℤ). (pos c.factor -ℤ pos 1) +ℤ z) (one_time own.low) in
        (λ j. block_span (start_so j) block_of.length (limits j))
        ∙ ap (λ (z : ℤ). record { lower = one_of own.low (pos c.factor) s ∷ []; upper = raised (one_of own.low (pos c.factor) s) z ∷ cap }) size_less
        ∙ (λ j. record { lower = one_of own.low (pos c.factor) s ∷ []; upper = record { constant = up j; terms = in_front (multiple s (once j)) [] } ∷ cap })
        ∙ (λ j. record {
          lower = one_of own.low (pos c.factor) s ∷ [];
          upper = record { constant = (pos c.factor -ℤ pos 1) +ℤ own.low; terms = if there j then [] else multiple s (pos c.factor) ∷ [] } ∷ cap;
        })
      where
        one_time : (z : ℤ) → pos 1 *ℤ z ≡ z
        one_time z = omega (arith, ints)

  -- ---- a block, which is not shifted

  module _ (plain : is_shifted c ≡ false) where
    cap_is : with_last [] (claim_last c own) ≡ kept_cap
    cap_is = of c.tail plain
      where
        by : (b : Bool) → with_last [] (if b then Some (last_number own) else None) ≡ (if b then number (last_number own) ∷ [] else [])
        by true = refl
        by false = refl

        of : (tail : Tail) → Unshifted tail → with_last [] (elim tail [ Guard ↦ own_last c own | Roundup ↦ None | Shift ↦ own_last c own ])
            ≡ (if (elim tail [ Guard ↦ has_rest c own.count | Roundup ↦ false | Shift ↦ true ]) then number (last_number own) ∷ [] else [])
        of Guard e = by (has_rest c own.count)
        of Roundup e = refl
        of Shift e = absurd (cc e)

    module _ (l : LayText) (is : l.numbers ≡ rs) (s : ℕ) (rest : List Split) (inner_end : end_of l.numbers c.inner rest ≡ last_number (numbers_named l.numbers c.inner)) where
      -- the turn of the parallel outer loop
      abbrev outer : BlockText
      outer = turn_of l is s rest inner_end

      abbrev b : BlockText
      b = block_of l is s rest inner_end

      -- the first number, the last one of a full block, and that of the loop
      pub block_claim : block_span b.start b.length b.claim_limits
          ≡ record { lower = one_of own.low (pos c.factor) s ∷ []; upper = one_of ((pos c.factor -ℤ pos 1) +ℤ own.low) (pos c.factor) s ∷ kept_cap }
      block_claim = claim_by l is s rest inner_end kept_cap cap_is

      origin_is : b.origin ≡ Some (one_of own.low (pos c.factor) s)
      origin_is = of c.tail plain ∙ ap (λ (f : Form). Some f) (start_so l is s rest inner_end)
        where
          of : (tail : Tail) → Unshifted tail → (elim tail [
            | Guard ↦ option_map (multiple_from own.low (factor_of c)) outer.origin
            | Roundup ↦ option_map (multiple_from own.low (factor_of c)) outer.origin
            | Shift ↦ if true then form_named l.starts c.whole else None
          ]) ≡ Some (multiple_from own.low (factor_of c) (counted_from (pos 0) s))
          of Guard e = refl
          of Roundup e = refl
          of Shift e = absurd (cc e)

      reach_is : b.reach ≡ pos c.factor
      reach_is = ap (reach_over c outer) (inner_end ∙ ap (λ (ns : List Numbers). last_number (numbers_named ns c.inner)) is ∙ inner_last) ∙ of c.tail plain
        where
          none : product (factor_of c) (difference (pos 1) (pos 1)) ≡ pos 0
          none =
              let zero_is : difference (pos 1) (pos 1) ≡ pos 0 = nearest_of_small (pos 1 -ℤ pos 1) (omega (arith, ints)) (omega (arith, ints)) in
              ap (product (factor_of c)) zero_is ∙ ap nearest (no_time (factor_of c)) ∙ nearest_of_small (pos 0) (omega (arith, ints)) (omega (arith, ints))
            where
              no_time : (z : ℤ) → z *ℤ pos 0 ≡ pos 0
              no_time z = omega (arith, ints)

          all_of : sum (stepped (pos c.factor -ℤ pos 1) (factor_of c) (difference (pos 1) (pos 1))) (pos 1) ≡ pos c.factor
          all_of =
              let wide = fits.few in
              let size = fits.some in
              let one : stepped (pos c.factor -ℤ pos 1) (factor_of c) (difference (pos 1) (pos 1)) ≡ pos c.factor -ℤ pos 1 =
              ap (λ (z : ℤ). nearest ((pos c.factor -ℤ pos 1) +ℤ z)) none ∙ ap nearest (nothing (pos c.factor -ℤ pos 1))
              ∙ nearest_of_small (pos c.factor -ℤ pos 1) (omega (arith, ints, size)) (omega (arith, ints, wide)) in
              ap (λ (z : ℤ). nearest (z +ℤ pos 1)) one ∙ ap nearest (back (pos c.factor)) ∙ nearest_of_small (pos c.factor) (omega (arith, ints)) (omega (arith, ints, wide))
            where
              nothing : (z : ℤ) → (z +ℤ pos 0) ≡ z
              nothing z = omega (arith, ints)

              back : (z : ℤ) → ((z -ℤ pos 1) +ℤ pos 1) ≡ z
              back z = omega (arith, ints)

          of : (tail : Tail) → Unshifted tail → (elim tail [
            | Guard ↦ sum (stepped (pos c.factor -ℤ pos 1) (factor_of c) (difference outer.reach (pos 1))) (pos 1)
            | Roundup ↦ sum (stepped (pos c.factor -ℤ pos 1) (factor_of c) (difference outer.reach (pos 1))) (pos 1)
            | Shift ↦ sum (pos c.factor -ℤ pos 1) (pos 1)
          ]) ≡ pos c.factor
          of Guard e = all_of
          of Roundup e = all_of
          of Shift e = absurd (cc e)

      pub block_places : (x : List ℕ) (cs : List Split) → (dimension_by l x cs (Run b)).places ≡ From (one_of own.low (pos c.factor) s) c.factor
      block_places x cs =
          let origin = origin_is in
          let reach = reach_is in
          λ j. places_by l x cs (reach j) (origin j)

  -- ---- a shifted block: its first number is a let

  module _ (shifted : is_shifted c ≡ true) where
    -- what is kept of its numbers: those up to the last one, where a block was moved
    abbrev pub rest_cap : List Form
    rest_cap = if has_rest c own.count then number (last_number own) ∷ [] else []

    shift_cap : with_last [] (claim_last c own) ≡ rest_cap
    shift_cap = of c.tail shifted
      where
        by : (b : Bool) → with_last [] (if b then Some (last_number own) else None) ≡ (if b then number (last_number own) ∷ [] else [])
        by true = refl
        by false = refl

        of : (tail : Tail) → (elim tail [ Guard ↦ false | Roundup ↦ false | Shift ↦ true ]) ≡ true →
            with_last [] (elim tail [ Guard ↦ own_last c own | Roundup ↦ None | Shift ↦ own_last c own ]) ≡ (if has_rest c own.count then number (last_number own) ∷ [] else [])
        of Guard e = absurd (cc e)
        of Roundup e = absurd (cc e)
        of Shift e = by (has_rest c own.count)

    module _ (l : LayText) (is : l.numbers ≡ rs) (s : ℕ) (rest : List Split) (inner_end : end_of l.numbers c.inner rest ≡ last_number (numbers_named l.numbers c.inner)) where
      abbrev moved : BlockText
      moved = block_of l is s rest inner_end

      pub shift_claim : block_span moved.start moved.length moved.claim_limits
          ≡ record { lower = one_of own.low (pos c.factor) s ∷ []; upper = one_of ((pos c.factor -ℤ pos 1) +ℤ own.low) (pos c.factor) s ∷ rest_cap }
      shift_claim = claim_by l is s rest inner_end rest_cap shift_cap

      pub shift_places : (f : Form) → form_named l.starts c.whole ≡ Some f → (x : List ℕ) (cs : List Split) → (dimension_by l x cs (Run moved)).places ≡ From f c.factor
      shift_places f start x cs = (let origin = origin_so in let reach = reach_so in λ j. places_by l x cs (reach j) (origin j))
        where
          origin_so : moved.origin ≡ Some f
          origin_so = of c.tail shifted ∙ start
            where
              of : (tail : Tail) → (elim tail [ Guard ↦ false | Roundup ↦ false | Shift ↦ true ]) ≡ true → (elim tail [
                | Guard ↦ option_map (multiple_from own.low (factor_of c)) (turn_of l is s rest inner_end).origin
                | Roundup ↦ option_map (multiple_from own.low (factor_of c)) (turn_of l is s rest inner_end).origin
                | Shift ↦ if true then form_named l.starts c.whole else None
              ]) ≡ form_named l.starts c.whole
              of Guard e = absurd (cc e)
              of Roundup e = absurd (cc e)
              of Shift e = refl

          reach_so : moved.reach ≡ pos c.factor
          reach_so =
              ap (reach_over c (turn_of l is s rest inner_end)) (inner_end ∙ ap (λ (ns : List Numbers). last_number (numbers_named ns c.inner)) is ∙ inner_last) ∙ of c.tail shifted
            where
              back : (z : ℤ) → ((z -ℤ pos 1) +ℤ pos 1) ≡ z
              back z = omega (arith, ints)

              all_of : sum (pos c.factor -ℤ pos 1) (pos 1) ≡ pos c.factor
              all_of = (let wide = fits.few in ap nearest (back (pos c.factor)) ∙ nearest_of_small (pos c.factor) (omega (arith, ints)) (omega (arith, ints, wide)))

              of : (tail : Tail) → (elim tail [ Guard ↦ false | Roundup ↦ false | Shift ↦ true ]) ≡ true → (elim tail [
                | Guard ↦ sum (stepped (pos c.factor -ℤ pos 1) (factor_of c) (difference (turn_of l is s rest inner_end).reach (pos 1))) (pos 1)
                | Roundup ↦ sum (stepped (pos c.factor -ℤ pos 1) (factor_of c) (difference (turn_of l is s rest inner_end).reach (pos 1))) (pos 1)
                | Shift ↦ sum (pos c.factor -ℤ pos 1) (pos 1)
              ]) ≡ pos c.factor
              of Guard e = absurd (cc e)
              of Roundup e = absurd (cc e)
              of Shift e = all_of
