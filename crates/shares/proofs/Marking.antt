-- Cells noted as taken by the bits of words.
use Rattle.std.proofs.Common.{◌≡◌, ◌≢◌, ℕ, zero, suc, ◌+◌, ◌-◌, ◌*◌, ◌/◌, ◌%◌, ◌^◌, ◌<◌, ◌≤◌, List, ◌++◌, length, take, drop, set}
use Rattle.std.proofs.Common.{get_or, replicate, Bool, false, Some, min, max, arith, ap, refl, sym, ◌∙◌, subst, inl, inr, nat_eq, bit_and, bit_or}
use Rattle.std.specs.Prelude.{slice_index, slice_get}
use Rattle.std.specs.Int.{bit_at}
use Rattle.std.specs.List.{range_with_len}
use Rattle.std.proofs.lemmas.Bool.{cases_lt, cases_eq}
use Rattle.std.proofs.lemmas.Grind.{get_or-set_at}
use Rattle.std.proofs.lemmas.List.{append-nil, drop_all, take_all, get_or-map, get_or-replicate, get_or-set_other, length-map, length-replicate, same_lists}
use Rattle.std.proofs.lemmas.List.FromFn.{get_or-range_with_len, length-range_with_len}
use Rattle.std.proofs.lemmas.Nat.Bits.{bit_at-lt, bit_at-zero, bit_at_and, bit_at_mask_below, bit_at_mask_inside, bit_at_ones, bit_at_ones_above, bit_at_or, ones_shl, ones_shr, same_from_bits}
use Rattle.std.proofs.lemmas.Option.{get_or_from_slice_get, slice_get-get_or}
use Rattle.orders.specs.Work.{OwnIsParted}
use Rattle.orders.specs.declared.cell_runs.CellRun.{CellRun}
use Rattle.shares.specs.Taken.{AreClear, AreMarked, AreTaken, HasPart, HasRun, IsClear, free_count, mark_of, marks_in}
use Rattle.shares.proofs.Filling.{AreFree, filled, filled_before, filled_get, filled_inside, filled_long, free_filled, run_clash, taken_filled}

-- ---- one word

least : (a b m : ℕ) → m ≡ min a b → b ≡ 1 → a < 2 → m ≡ a
least a b m is one less = omega (arith, is, one, less)

least_zero : (a b m : ℕ) → m ≡ min a b → b ≡ 0 → m ≡ 0
least_zero a b m is none = omega (arith, is, none)

most : (a b m : ℕ) → m ≡ max a b → b ≡ 1 → a < 2 → m ≡ 1
most a b m is one less = omega (arith, is, one, less)

most_zero : (a b m : ℕ) → m ≡ max a b → b ≡ 0 → m ≡ a
most_zero a b m is none = omega (arith, is, none)

-- the ones below an end that are not below a start
pub masks_bit : (low high i : ℕ) → low < high → high ≤ 64 →
    bit_at (bit_and (18446744073709551615 / 2 ^ (64 - high)) (18446744073709551615 * 2 ^ low % 18446744073709551616)) i ≡ min (bit_at (2 ^ high - 1) i) (bit_at (2 ^ 64 - 2 ^ low) i)
masks_bit low high i some fits =
    let back : 64 - (64 - high) ≡ high = omega (arith, fits) in
    let upper : 18446744073709551615 / 2 ^ (64 - high) ≡ 2 ^ high - 1 = ones_shr 64 (64 - high) (omega arith) ∙ ap (λ (k : ℕ). 2 ^ k - 1) back in
    let lower : 18446744073709551615 * 2 ^ low % 18446744073709551616 ≡ 2 ^ 64 - 2 ^ low = ones_shl 64 low (omega (arith, some, fits)) in
    ap (λ (n : ℕ). bit_at (bit_and n (18446744073709551615 * 2 ^ low % 18446744073709551616)) i) upper
    ∙ ap (λ (n : ℕ). bit_at (bit_and (2 ^ high - 1) n) i) lower ∙ bit_at_and (2 ^ high - 1) (2 ^ 64 - 2 ^ low) i

least_both : (a b m : ℕ) → m ≡ min a b → a ≡ 1 → b ≡ 1 → m ≡ 1
least_both a b m is one other = omega (arith, is, one, other)

least_first : (a b m : ℕ) → m ≡ min a b → a ≡ 0 → m ≡ 0
least_first a b m is none = omega (arith, is, none)

pub ones_inside : (low high i : ℕ) → low < high → high ≤ 64 → low ≤ i → i < high → min (bit_at (2 ^ high - 1) i) (bit_at (2 ^ 64 - 2 ^ low) i) ≡ 1
ones_inside low high i some fits from to =
    least_both (bit_at (2 ^ high - 1) i) (bit_at (2 ^ 64 - 2 ^ low) i) _ refl (bit_at_ones high i to) (bit_at_mask_inside low 64 i from (omega (arith, fits, to)))

pub ones_below : (low high i : ℕ) → i < low → min (bit_at (2 ^ high - 1) i) (bit_at (2 ^ 64 - 2 ^ low) i) ≡ 0
ones_below low high i to = least_zero (bit_at (2 ^ high - 1) i) (bit_at (2 ^ 64 - 2 ^ low) i) _ refl (bit_at_mask_below low 64 i to)

pub ones_above : (low high i : ℕ) → high ≤ i → min (bit_at (2 ^ high - 1) i) (bit_at (2 ^ 64 - 2 ^ low) i) ≡ 0
ones_above low high i from = least_first (bit_at (2 ^ high - 1) i) (bit_at (2 ^ 64 - 2 ^ low) i) _ refl (bit_at_ones_above high i from)

module _ (word part low high : ℕ) (inside : (i : ℕ) → low ≤ i → i < high → bit_at part i ≡ 1) (below : (i : ℕ) → i < low → bit_at part i ≡ 0) (above : (i : ℕ) → high ≤ i → bit_at part i ≡ 0) where
  -- a word that shares no bit with the part has none of the part's bits
  pub clear_part : bit_and word part ≡ 0 → IsClear word low high
  clear_part apart i from to =
      sym (least (bit_at word i) (bit_at part i) (bit_at (bit_and word part) i) (bit_at_and word part i) (inside i from to) (bit_at-lt word i)) ∙ ap (λ (n : ℕ). bit_at n i) apart ∙ bit_at-zero i

  -- and one that has none of them shares none
  pub part_clear : IsClear word low high → bit_and word part ≡ 0
  part_clear clear = same_from_bits (bit_and word part) 0 (λ i. none i ∙ sym (bit_at-zero i))
    where
      none : (i : ℕ) → bit_at (bit_and word part) i ≡ 0
      none i = elim (cases_lt i low) [
        | inl under ↦ least_zero (bit_at word i) (bit_at part i) (bit_at (bit_and word part) i) (bit_at_and word part i) (below i under)
        | inr from ↦ elim (cases_lt i high) [
          | inl to ↦ least_first (bit_at word i) (bit_at part i) (bit_at (bit_and word part) i) (bit_at_and word part i) (clear i from to)
          | inr past ↦ least_zero (bit_at word i) (bit_at part i) (bit_at (bit_and word part) i) (bit_at_and word part i) (above i past)
        ]
      ]

  pub part_set : HasPart word (bit_or word part) low high
  part_set = record {
    set = λ i from to. most (bit_at word i) (bit_at part i) (bit_at (bit_or word part) i) (bit_at_or word part i) (inside i from to) (bit_at-lt word i);
    below = λ i under. most_zero (bit_at word i) (bit_at part i) (bit_at (bit_or word part) i) (bit_at_or word part i) (below i under);
    above = λ i past. most_zero (bit_at word i) (bit_at part i) (bit_at (bit_or word part) i) (bit_at_or word part i) (above i past);
  }

-- ---- a word more

mark_there : (now : List ℕ) (place word x : ℕ) → x / 64 ≢ place → mark_of (set now place word) x ≡ mark_of now x
mark_there now place word x other = ap (λ (n : ℕ). bit_at n (x % 64)) (get_or-set_other now place (x / 64) word 0 other)

mark_here : (now : List ℕ) (place word x : ℕ) → place < length now → x / 64 ≡ place → mark_of (set now place word) x ≡ bit_at word (x % 64)
mark_here now place word x less is = ap (λ (n : ℕ). bit_at n (x % 64)) (get_or-set_at now place (x / 64) word 0 is less)

mark_is : (now : List ℕ) (place x : ℕ) → x / 64 ≡ place → mark_of now x ≡ bit_at (slice_index now place) (x % 64)
mark_is now place x is = ap (λ (k : ℕ). bit_at (slice_index now k) (x % 64)) is

pub marked_none : (words : List ℕ) (first end : ℕ) → AreMarked words words first end (64 * (first / 64))
marked_none words first end = record {
  clear = λ x from to under. absurd (omega (arith, from, under));
  set = λ x from to under. absurd (omega (arith, from, under));
  before = λ x under. refl;
  behind = λ x past. refl;
  later = λ x past. refl;
}

module _ (old now : List ℕ) (first end place low high : ℕ) (less : place < length now) (starts : low ≡ first - place * 64) (ends : high ≡ min (end - place * 64) 64)
    (marked : AreMarked old now first end (64 * place)) where
  inside : (x : ℕ) → x / 64 ≡ place → first ≤ x → x < end → (low ≤ x % 64) × (x % 64 < high)
  inside x is from to = (omega (arith, is, from, starts), omega (arith, is, to, ends))

  under : (x : ℕ) → x / 64 ≡ place → x < first → x % 64 < low
  under x is to = omega (arith, is, to, starts)

  past : (x : ℕ) → x / 64 ≡ place → end ≤ x → high ≤ x % 64
  past x is from = omega (arith, is, from, ends)

  pub marked_more : (word : ℕ) → IsClear (slice_index now place) low high → HasPart (slice_index now place) word low high → AreMarked old (set now place word) first end (64 * (place + 1))
  marked_more word free part = record {
    clear = λ x from to up. elim (cases_eq (x / 64) place) [
      | inl is ↦ (let at = inside x is from to in sym (marked.later x (omega (arith, is))) ∙ mark_is now place x is ∙ free (x % 64) at.0 at.1)
      | inr other ↦ marked.clear x from to (omega (arith, other, up))
    ];
    set = λ x from to up. elim (cases_eq (x / 64) place) [
      | inl is ↦ (let at = inside x is from to in mark_here now place word x less is ∙ part.set (x % 64) at.0 at.1)
      | inr other ↦ mark_there now place word x other ∙ marked.set x from to (omega (arith, other, up))
    ];
    before = λ x to. elim (cases_eq (x / 64) place) [
      | inl is ↦ mark_here now place word x less is ∙ part.below (x % 64) (under x is to) ∙ sym (mark_is now place x is) ∙ marked.before x to
      | inr other ↦ mark_there now place word x other ∙ marked.before x to
    ];
    behind = λ x from. elim (cases_eq (x / 64) place) [
      | inl is ↦ mark_here now place word x less is ∙ part.above (x % 64) (past x is from) ∙ sym (mark_is now place x is) ∙ marked.behind x from
      | inr other ↦ mark_there now place word x other ∙ marked.behind x from
    ];
    later = λ x from. mark_there now place word x (λ is. absurd (let e : x / 64 ≡ place = is in omega (arith, e, from))) ∙ marked.later x (omega (arith, from));
  }

  -- where no cell is taken, none of the word's is
  pub clear_here : AreClear old first end → IsClear (slice_index now place) low high
  clear_here free i from to =
      let at : (place * 64 + i) / 64 ≡ place = omega (arith, to, ends) in
      let bit : (place * 64 + i) % 64 ≡ i = omega (arith, to, ends) in
      ap (λ (k : ℕ). bit_at (slice_index now place) k) (sym bit) ∙ sym (mark_is now place (place * 64 + i) at) ∙ marked.later (place * 64 + i) (omega arith)
      ∙ free (place * 64 + i) (omega (arith, from, starts)) (omega (arith, to, ends))

-- behind the last word
pub marked_all : (old now : List ℕ) (first end place : ℕ) → end ≤ 64 * place → AreMarked old now first end (64 * place) → AreMarked old now first end end
marked_all old now first end place through marked = record {
  clear = λ x from to up. marked.clear x from to (omega (arith, to, through));
  set = λ x from to up. marked.set x from to (omega (arith, to, through));
  before = marked.before;
  behind = marked.behind;
  later = marked.behind;
}

-- ---- words as a list of cells

pub marks_long : (words : List ℕ) (count : ℕ) → length (marks_in words count) ≡ count
marks_long words count = length-map (range_with_len 0 count) (λ x. nat_eq (mark_of words x) 1) ∙ length-range_with_len 0 count

marks_at : (words : List ℕ) (count x : ℕ) (d : Bool) → x < count → get_or (marks_in words count) x d ≡ nat_eq (mark_of words x) 1
marks_at words count x d less =
    let long = length-range_with_len 0 count in
    let start : 0 + x ≡ x = omega arith in
    get_or-map (λ x. nat_eq (mark_of words x) 1) (range_with_len 0 count) x 0 d (omega (arith, less, long))
    ∙ ap (λ (k : ℕ). nat_eq (mark_of words k) 1) (get_or-range_with_len 0 count x 0 less ∙ start)

-- words of 0 have no cell
pub marks_none : (words count : ℕ) → count ≤ 64 * words → marks_in (replicate words 0) count ≡ replicate count false
marks_none words count fits =
    let long = marks_long (replicate words 0) count in
    same_lists (marks_in (replicate words 0) count) (replicate count false) (long ∙ sym (length-replicate count false)) (λ k d less.
    marks_at (replicate words 0) count k d (omega (arith, less, long))
    ∙ ap (λ (n : ℕ). nat_eq (bit_at n (k % 64)) 1) (get_or-replicate words (k / 64) 0 0 (omega (arith, less, long, fits))) ∙ ap (λ (n : ℕ). nat_eq n 1) (bit_at-zero (k % 64))
    ∙ sym (get_or-replicate count k false d (omega (arith, less, long))))

pub clear_free : (words : List ℕ) (count first n : ℕ) → first + n ≤ count → AreClear words first (first + n) → AreFree (marks_in words count) first n
clear_free words count first n within clear k less =
    let long = marks_long words count in
    slice_get-get_or (marks_in words count) (first + k) false (omega (arith, less, within, long))
    ∙ ap Some (marks_at words count (first + k) false (omega (arith, less, within)) ∙ ap (λ (m : ℕ). nat_eq m 1) (clear (first + k) (omega arith) (omega (arith, less))))

zero_bit : (m : ℕ) → m < 2 → nat_eq m 1 ≡ false → m ≡ 0
zero_bit zero less e = refl
zero_bit (suc zero) less e = absurd (cc e)
zero_bit (suc (suc m)) less e = absurd (omega (arith, less))

pub free_clear : (words : List ℕ) (count first n : ℕ) → first + n ≤ count → AreFree (marks_in words count) first n → AreClear words first (first + n)
free_clear words count first n within free x from to =
    let there : first + (x - first) ≡ x = omega (arith, from) in
    let at = subst (λ (k : ℕ). slice_get (marks_in words count) k ≡ Some false) there (free (x - first) (omega (arith, from, to))) in
    zero_bit (mark_of words x) (bit_at-lt (slice_index words (x / 64)) (x % 64))
    (sym (marks_at words count x false (omega (arith, to, within))) ∙ get_or_from_slice_get (marks_in words count) x false false at)

-- cells that are marked are filled
pub marks_filled : (old new : List ℕ) (count first n : ℕ) → first + n ≤ count → AreMarked old new first (first + n) (first + n) → marks_in new count ≡ filled (marks_in old count) first n
marks_filled old new count first n within marked =
    let taken = marks_in old count in
    let long = marks_long new count in
    let was = marks_long old count in
    let kept = filled_long taken first n in
    same_lists (marks_in new count) (filled taken first n) (long ∙ sym was ∙ sym kept) (λ k d less.
    marks_at new count k d (omega (arith, less, long)) ∙ elim (cases_lt k first) [
      | inl under ↦ ap (λ (m : ℕ). nat_eq m 1) (marked.before k under) ∙ sym (marks_at old count k d (omega (arith, less, long))) ∙ sym (filled_before taken first n k d under)
      | inr from ↦ elim (cases_lt k (first + n)) [
        | inl to ↦ ap (λ (m : ℕ). nat_eq m 1) (marked.set k from to to) ∙ sym (filled_inside taken first n k d from to (omega (arith, less, long, was)))
        | inr past ↦ ap (λ (m : ℕ). nat_eq m 1) (marked.behind k past) ∙ sym (marks_at old count k d (omega (arith, less, long))) ∙ sym (filled_get taken first n k d past)
      ]
    ])

-- ---- a run's cells

module _ (old new : List ℕ) (count : ℕ) (r : CellRun) (within : r.first + r.count ≤ count) where
  pub run_taken : AreMarked old new r.first (r.first + r.count) (r.first + r.count) → (own : ℕ → List ℕ) (p a : ℕ) → HasRun (own p) a r → AreTaken own (marks_in old count) p a →
      AreTaken own (marks_in new count) p (a + r.count)
  run_taken marked own p a has start =
      subst (λ (bs : List Bool). AreTaken own bs p (a + r.count)) (sym (marks_filled old new count r.first r.count within marked))
      (taken_filled own (marks_in old count) p a r has start r.count (omega arith) (clear_free old count r.first r.count within (λ x from to. marked.clear x from to to)))

  pub run_free : AreMarked old new r.first (r.first + r.count) (r.first + r.count) → free_count (marks_in new count) + r.count ≡ free_count (marks_in old count)
  run_free marked =
      subst (λ (bs : List Bool). free_count bs + r.count ≡ free_count (marks_in old count)) (sym (marks_filled old new count r.first r.count within marked))
      (free_filled (marks_in old count) r.first r.count (clear_free old count r.first r.count within (λ x from to. marked.clear x from to to)))

  pub run_held : (AreClear old r.first (r.first + r.count) → ⊥) → (own : ℕ → List ℕ) (p a : ℕ) → HasRun (own p) a r → AreTaken own (marks_in old count) p a →
      OwnIsParted (p + 1) (length (marks_in old count)) own → ⊥
  run_held held own p a has start parted = run_clash own (marks_in old count) p a r has start (λ free. held (free_clear old count r.first r.count within free)) parted

-- a vector into all of which something was written is that
pub written : (len : ℕ) (new old : List ℕ) → length new ≡ length old → len ≡ length old → take len (new ++ drop (length new) old) ≡ new
written len new old same long =
    ap (λ (rest : List ℕ). take len (new ++ rest)) (drop_all (length new) old (omega (arith, same))) ∙ ap (take len) (append-nil new) ∙ take_all len new (omega (arith, same, long))
