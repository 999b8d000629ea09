-- Clamped ramps: where they stay, where they rise, and what is found along their parts.
use Rattle.std.proofs.Common.{◌≡◌, ℕ, ◌+◌, ◌-◌, ◌<◌, ◌≤◌, List, ◌++◌, length, Option, Some, inl, inr, sym, ap, ◌∙◌, arith, ℤ, pos}
use Rattle.std.specs.Prelude.{◌+ℤ◌, ◌≤ℤ◌}
use Rattle.std.specs.Int.{int_max, int_min}
use Rattle.std.proofs.lemmas.Bool.{cases_lt}
use Rattle.std.proofs.lemmas.Int.{ints, clamps}
use Rattle.std.proofs.lemmas.List.{get_or_append_left, get_or-append-add, length-append}
use Rattle.numeric.specs.declared.ty.Ty.{Ty}
use Rattle.numeric.specs.Wrap.{wrap}
use Rattle.tree.specs.declared.value.Value.{Value}
use Rattle.tree.specs.Meaning.{typed}
use Rattle.interpreter.specs.Evaluation.Words.{bits_at, word_at}

-- before a ramp reaches its low end, it is at the number that it has when it does
pub low_end : (first begun low least high start : ℤ) (n k : ℕ) → begun ≡ first → least ≡ low → k < n → (begun +ℤ pos (n - 1 + 1)) ≤ℤ least → least ≤ℤ (begun +ℤ pos n) →
    start ≡ begun +ℤ pos n → int_max (int_min (first +ℤ pos k) high) low ≡ start
low_end first begun low least high start n k is same less below above behind = omega (arith, ints, clamps, is, same, less, below, above, behind)

-- behind the turn at which a ramp reaches its high end, it is at the number that it has there
pub high_end : (first begun low high greatest start : ℤ) (n last m k : ℕ) → begun ≡ first → greatest ≡ high → low ≤ℤ high → 0 < m → (begun +ℤ pos (m - 1 + 1)) ≤ℤ greatest →
    greatest ≤ℤ (begun +ℤ pos m) → greatest ≤ℤ (begun +ℤ pos k) → n + last ≡ m → start ≡ begun +ℤ pos n → int_max (int_min (first +ℤ pos k) high) low ≡ start +ℤ pos last
high_end first begun low high greatest start n last m k is same order some below above beyond there behind = omega (arith, ints, clamps, is, same, order, some, below, above, beyond, there, behind)

-- between its ends, it is so many behind the number that lies so many behind the first
pub between_ends : (first begun low least high greatest start : ℤ) (n k m : ℕ) → begun ≡ first → least ≡ low → greatest ≡ high → least ≤ℤ (begun +ℤ pos (n + k)) → 0 < m →
    (begun +ℤ pos (m - 1 + 1)) ≤ℤ greatest → n + k ≤ m → start ≡ begun +ℤ pos n → int_max (int_min (first +ℤ pos (n + k)) high) low ≡ start +ℤ pos k
between_ends first begun low least high greatest start n k m is same equal from some below to behind = omega (arith, ints, clamps, is, same, equal, from, some, below, to, behind)

-- so many turns, and one more if there are more
pub record IsOneMore (m count after : ℕ) : Type 0 where
  pub more : m < count → after ≡ m + 1
  pub all : count ≤ m → after ≡ count

pub one_more_within : (m count after : ℕ) → IsOneMore m count after → m ≤ count → (m ≤ after) × (after ≤ count) × (after ≤ m + 1)
one_more_within m count after h most = elim (cases_lt m count) [
  | inl less ↦ (let is = h.more less in (omega (arith, is), omega (arith, is, less), omega (arith, is)))
  | inr more ↦ (let is = h.all more in (omega (arith, is, most), omega (arith, is), omega (arith, is, more)))
]

pub one_more_reached : (m count after k : ℕ) → IsOneMore m count after → after ≤ k → k < count → (m < count) × (after ≡ m + 1)
one_more_reached m count after k h from to = elim (cases_lt m count) [
  | inl less ↦ (less, h.more less)
  | inr more ↦ (let is = h.all more in absurd (omega (arith, is, from, to)))
]

pub front_word : (xs ys : List ℕ) (k : ℕ) → k < length xs → bits_at (xs ++ ys) k ≡ bits_at xs k
front_word xs ys k lt = get_or_append_left xs ys 0 k lt

pub later_word : (xs ys : List ℕ) (k : ℕ) → bits_at (xs ++ ys) (length xs + k) ≡ bits_at ys k
later_word xs ys k = get_or-append-add xs ys k 0

-- what is found at a low end, along a row and at a high end is found at all turns
pub along_parts : (find : ℤ → Option Value) (t : Ty) (at : ℕ → ℤ) (before after : ℕ) (low high start : ℤ) (left middle right : List ℕ) →
    length left ≡ before → length middle ≡ after - before → before ≤ after →
    ((k : ℕ) → k < before → at k ≡ low) →
    ((k : ℕ) → before + k < after → at (before + k) ≡ start +ℤ pos k) →
    ((k : ℕ) → after ≤ k → k < length (left ++ (middle ++ right)) → at k ≡ high) →
    ((k : ℕ) → k < length left → find low ≡ Some (typed t (word_at t left k))) →
    ((k : ℕ) → k < length middle → find (start +ℤ pos k) ≡ Some (typed t (word_at t middle k))) →
    ((k : ℕ) → k < length right → find high ≡ Some (typed t (word_at t right k))) →
    (k : ℕ) → k < length (left ++ (middle ++ right)) → find (at k) ≡ Some (typed t (word_at t (left ++ (middle ++ right)) k))
along_parts find t at before after low high start left middle right long wide order at_low at_rising at_high found_low found_rising found_high k lt =
    let whole : List ℕ = left ++ (middle ++ right) in
    let value : ℕ → Option Value = λ (w : ℕ). Some (typed t (wrap t (pos w))) in
    let all : length whole ≡ length left + length (middle ++ right) = length-append left (middle ++ right) in
    let rest : length (middle ++ right) ≡ length middle + length right = length-append middle right in
    elim (cases_lt k before) [
      | inl less ↦
          (let inside : k < length left = omega (arith, long, less) in
          ap find (at_low k less) ∙ found_low k inside ∙ ap value (sym (front_word left (middle ++ right) k inside)))
      | inr past ↦ elim (cases_lt k after) [
        | inl less ↦
            (let j : ℕ = k - before in
            let is : k ≡ before + j = omega (arith, past) in
            let there : k ≡ length left + j = omega (arith, past, long) in
            let inside : j < length middle = omega (arith, past, less, wide) in
            ap (λ (n : ℕ). find (at n)) is ∙ ap find (at_rising j (omega (arith, past, less))) ∙ found_rising j inside
            ∙ ap value (sym (ap (bits_at whole) there ∙ later_word left (middle ++ right) j ∙ front_word middle right j inside)))
        | inr beyond ↦
            (let j : ℕ = k - after in
            let there : k ≡ length left + (length middle + j) = omega (arith, beyond, long, wide, order) in
            let inside : j < length right = omega (arith, beyond, long, wide, order, lt, all, rest) in
            ap find (at_high k beyond lt) ∙ found_high j inside
            ∙ ap value (sym (ap (bits_at whole) there ∙ later_word left (middle ++ right) (length middle + j) ∙ later_word middle right j)))
      ]
    ]
