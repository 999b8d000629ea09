-- The ends of what belongs to a piece of a dimension that is split once, by whatever tail: they are near the loop's own numbers.
use Rattle.std.proofs.Common.{◌≡◌, ℕ, ◌+◌, ◌*◌, ◌^◌, ◌<◌, ◌≤◌, List, [], ◌∷◌, sym, ap, ◌∙◌, subst, arith}
use Rattle.std.specs.Prelude.{ℤ, pos, ◌+ℤ◌, ◌-ℤ◌, ◌*ℤ◌, if◌then◌else◌}
use Rattle.std.specs.Int.RustNames.{unsigned_abs}
use Rattle.std.proofs.lemmas.Int.{ints}
use Rattle.lin.specs.Forms.{Form, in_front}
use Rattle.sched.specs.declared.schedule.Split.{Split}
use Rattle.sched.specs.declared.schedule.Tail.{Tail}
use Rattle.sched.specs.declared.schedule.Tail.TheVariants.{Guard, Roundup, Shift}
use Rattle.sched.specs.declared.numbers.Numbers.{Numbers}
use Rattle.sched.specs.Numbers.{numbers_named, last_number}
use Rattle.sched.specs.Standing.{counted_from}
use Rattle.blocks.specs.Blocks.{sum, product, stepped, multiple_from, raised, split_end, split_claim_end, BlockText, block_span, reach_over}
use Rattle.sched.specs.Blocks.{difference, factor_of}
use Rattle.lower.proofs.Blocking.{IsSmall, CutFits}
use Rattle.lower.proofs.Dividing.{nearest, nearest_of_small}
use Rattle.completeness.proofs.BlockDims.{top, blocks_top, top_low}
use Rattle.completeness.proofs.BlockSums.{multiple, start_is, some_factor}
use Rattle.completeness.proofs.Searched.{one_of}

-- ---- sums of 64 bits, of numbers that are near

-- they are so near
abbrev IsNear : ℕ → ℤ → Type 0
IsNear n z = unsigned_abs z ≤ n

nearest_near : (n : ℕ) → n ≤ 2 ^ 40 → (z : ℤ) → IsNear n z → IsNear n (nearest z)
nearest_near n le z h = (let is = nearest_of_small z (omega (arith, ints, le, h)) (omega (arith, ints, le, h)) in subst (IsNear n) (sym is) h)

sum_near : (m n : ℕ) → m + n ≤ 2 ^ 40 → (a b : ℤ) → IsNear m a → IsNear n b → IsNear (m + n) (sum a b)
sum_near m n le a b h k = nearest_near (m + n) le (a +ℤ b) (omega (arith, ints, h, k))

difference_near : (m n : ℕ) → m + n ≤ 2 ^ 40 → (a b : ℤ) → IsNear m a → IsNear n b → IsNear (m + n) (difference a b)
difference_near m n le a b h k = nearest_near (m + n) le (a -ℤ b) (omega (arith, ints, h, k))

times_near : (a b m : ℕ) → b * a ≤ m → m ≤ 2 ^ 40 → IsNear m (product (pos a) (pos b))
times_near a b m h le = (let is : pos a *ℤ pos b ≡ pos (b * a) = omega (arith, ints) in nearest_near m le (pos a *ℤ pos b) (subst (IsNear m) (sym is) h))

-- ---- a split

module _ (rs : List Numbers) (c : Split) (fits : CutFits rs c) (small : IsSmall (numbers_named rs c.whole)) (some : 0 < (numbers_named rs c.whole).count) where
  abbrev own : Numbers
  own = numbers_named rs c.whole

  abbrev t : ℕ
  t = top own.count c.factor

  abbrev outer_end : ℤ
  outer_end = last_number (numbers_named rs c.outer)

  abbrev inner_end : ℤ
  inner_end = last_number (numbers_named rs c.inner)

  outer_is : outer_end ≡ pos t
  outer_is = (let are = blocks_top own.count c.factor some fits.some in ap last_number fits.outer ∙ omega (arith, ints, are))

  inner_is : inner_end ≡ pos c.factor -ℤ pos 1
  inner_is = ap last_number fits.inner ∙ omega (arith, ints)

  low_near : IsNear (2 ^ 32) own.low
  low_near = (let from = small.from in let to = small.to in omega (arith, ints, from, to))

  last_near : IsNear (2 ^ 34) (last_number own)
  last_near = (let from = small.from in let to = small.to in let few = small.few in omega (arith, ints, from, to, few, some))

  inner_near : IsNear 2048 inner_end
  inner_near = (let is = inner_is in let few = fits.few in let factor = fits.some in omega (arith, ints, is, few, factor))

  less_near : IsNear 2048 (difference (factor_of c) (pos 1))
  less_near = (let few = fits.few in weaker (difference_near 1024 1 (omega arith) (factor_of c) (pos 1) (omega (arith, ints, few)) (omega (arith, ints))))
    where
      weaker : IsNear (1024 + 1) (difference (factor_of c) (pos 1)) → IsNear 2048 (difference (factor_of c) (pos 1))
      weaker h = omega (arith, h)

  -- the first number of the last block
  block_near : IsNear (2 ^ 32 + 2 ^ 32) (stepped own.low (factor_of c) outer_end)
  block_near =
      let top_is = top_low own.count c.factor some fits.some in
      let few = small.few in
      let times : IsNear (2 ^ 32) (product (factor_of c) (pos t)) = times_near c.factor t (2 ^ 32) (omega (arith, top_is, few)) (omega arith) in
      sum_near (2 ^ 32) (2 ^ 32) (omega arith) own.low (product (factor_of c) outer_end) low_near (subst (λ (z : ℤ). IsNear (2 ^ 32) (product (factor_of c) z)) (sym outer_is) times)

  -- behind it, so many more
  rounded_near : (z : ℤ) → IsNear 2048 z → IsNear (2 ^ 36) (sum (stepped own.low (factor_of c) outer_end) z)
  rounded_near z h = weaker (sum_near (2 ^ 32 + 2 ^ 32) 2048 (omega arith) (stepped own.low (factor_of c) outer_end) z block_near h)
    where
      weaker : IsNear ((2 ^ 32 + 2 ^ 32) + 2048) (sum (stepped own.low (factor_of c) outer_end) z) → IsNear (2 ^ 36) (sum (stepped own.low (factor_of c) outer_end) z)
      weaker q = omega (arith, q)

  -- of what is visited, and of what claims speak of
  pub end_near : unsigned_abs (split_end c own outer_end inner_end) ≤ 2 ^ 36
  unfolding split_end
  end_near = of c.tail
    where
      of : (tail : Tail) → unsigned_abs (elim tail [
        | Guard ↦ last_number own
        | Roundup ↦ sum (stepped own.low (factor_of c) outer_end) inner_end
        | Shift ↦ sum (difference (last_number own) (difference (factor_of c) (pos 1))) inner_end
      ]) ≤ 2 ^ 36
      of Guard = (let near = last_near in omega (arith, near))
      of Roundup = rounded_near inner_end inner_near
      of Shift =
          let first = difference_near (2 ^ 34) 2048 (omega arith) (last_number own) (difference (factor_of c) (pos 1)) last_near less_near in
          let near = sum_near (2 ^ 34 + 2048) 2048 (omega arith) (difference (last_number own) (difference (factor_of c) (pos 1))) inner_end first inner_near in
          omega (arith, near)

  pub claim_end_near : unsigned_abs (split_claim_end c own outer_end) ≤ 2 ^ 36
  unfolding split_claim_end
  claim_end_near = of c.tail
    where
      of : (tail : Tail) → unsigned_abs (elim tail [
        | Guard ↦ last_number own
        | Roundup ↦ sum (stepped own.low (factor_of c) outer_end) (difference (factor_of c) (pos 1))
        | Shift ↦ last_number own
      ]) ≤ 2 ^ 36
      of Guard = (let near = last_near in omega (arith, near))
      of Roundup = rounded_near (difference (factor_of c) (pos 1)) less_near
      of Shift = (let near = last_near in omega (arith, near))

  -- of one block no more is visited than it has
  pub reach_near : (outer : BlockText) → outer.reach ≡ pos 1 → unsigned_abs (reach_over c outer inner_end) ≤ 2 ^ 36
  reach_near outer one = of c.tail
    where
      zero_is : difference outer.reach (pos 1) ≡ pos 0
      zero_is = ap (λ (z : ℤ). difference z (pos 1)) one ∙ nearest_of_small (pos 1 -ℤ pos 1) (omega (arith, ints)) (omega (arith, ints))

      none : IsNear 1 (product (factor_of c) (difference outer.reach (pos 1)))
      none = subst (λ (z : ℤ). IsNear 1 (product (factor_of c) z)) (sym zero_is) (times_near c.factor 0 1 (omega arith) (omega arith))

      whole : IsNear (2 ^ 36) (sum (stepped inner_end (factor_of c) (difference outer.reach (pos 1))) (pos 1))
      whole =
          let first = sum_near 2048 1 (omega arith) inner_end (product (factor_of c) (difference outer.reach (pos 1))) inner_near none in
          let near = sum_near (2048 + 1) 1 (omega arith) (stepped inner_end (factor_of c) (difference outer.reach (pos 1))) (pos 1) first (omega (arith, ints)) in
          omega (arith, near)

      of : (tail : Tail) → unsigned_abs (elim tail [
        | Guard ↦ sum (stepped inner_end (factor_of c) (difference outer.reach (pos 1))) (pos 1)
        | Roundup ↦ sum (stepped inner_end (factor_of c) (difference outer.reach (pos 1))) (pos 1)
        | Shift ↦ sum inner_end (pos 1)
      ]) ≤ 2 ^ 36
      of Guard = whole
      of Roundup = whole
      of Shift = (let near = sum_near 2048 1 (omega arith) inner_end (pos 1) inner_near (omega (arith, ints)) in omega (arith, near))

  -- the first number of a block, and the last one of a full block
  module _ (s : ℕ) (limits : List Form) where
    pub block_first : multiple_from own.low (factor_of c) (counted_from (pos 0) s) ≡ one_of own.low (pos c.factor) s
    block_first = start_is own.low c.factor s fits.some

    size_less : difference (product (factor_of c) (pos 1)) (pos 1) ≡ pos c.factor -ℤ pos 1
    size_less =
        let wide = fits.few in
        let size = fits.some in
        let one : product (factor_of c) (pos 1) ≡ pos c.factor = ap nearest (one_time (pos c.factor)) ∙ nearest_of_small (pos c.factor) (omega (arith, ints)) (omega (arith, ints, wide)) in
        ap (λ (z : ℤ). nearest (z -ℤ pos 1)) one ∙ nearest_of_small (pos c.factor -ℤ pos 1) (omega (arith, ints, size)) (omega (arith, ints, wide))
      where
        one_time : (z : ℤ) → z *ℤ pos 1 ≡ z
        one_time z = omega (arith, ints)

    pub block_is : block_span (multiple_from own.low (factor_of c) (counted_from (pos 0) s)) (product (factor_of c) (pos 1)) limits
        ≡ record { lower = one_of own.low (pos c.factor) s ∷ []; upper = one_of ((pos c.factor -ℤ pos 1) +ℤ own.low) (pos c.factor) s ∷ limits }
    block_is =
        let start = block_first in
        let there = some_factor c.factor fits.some in
        let once : pos 1 *ℤ pos c.factor ≡ pos c.factor = omega (arith, ints) in
        let up : (pos c.factor -ℤ pos 1) +ℤ pos 1 *ℤ own.low ≡ (pos c.factor -ℤ pos 1) +ℤ own.low = ap (λ (z : ℤ). (pos c.factor -ℤ pos 1) +ℤ z) (one_time own.low) in
        (λ j. block_span (start j) (product (factor_of c) (pos 1)) limits)
        ∙ ap (λ (z : ℤ). record { lower = one_of own.low (pos c.factor) s ∷ []; upper = raised (one_of own.low (pos c.factor) s) z ∷ limits }) size_less
        ∙ (λ j. record { lower = one_of own.low (pos c.factor) s ∷ []; upper = record { constant = up j; terms = in_front (multiple s (once j)) [] } ∷ limits })
        ∙ (λ j. record {
          lower = one_of own.low (pos c.factor) s ∷ [];
          upper = record { constant = (pos c.factor -ℤ pos 1) +ℤ own.low; terms = if there j then [] else multiple s (pos c.factor) ∷ [] } ∷ limits;
        })
      where
        one_time : (z : ℤ) → pos 1 *ℤ z ≡ z
        one_time z = omega (arith, ints)
