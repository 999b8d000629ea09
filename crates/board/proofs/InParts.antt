-- Samples that are set in a part of all.
use Rattle.std.proofs.Common.{◌≡◌, ℕ, ◌+◌, ◌-◌, ◌<◌, ℤ, List, ◌++◌, length, get_or, sym, ap, subst, ◌∙◌, arith, refl}
use Rattle.std.specs.Prelude.{slice_index, Contains}
use Rattle.std.proofs.lemmas.List.{get_or_append_left, get_or-append_right, length-append}
use Rattle.board.specs.Layout.{Layout, own_of}
use Rattle.board.specs.Seen.{beside, place_of_cell, seen_bits, HasSample, IsShown, NoneShown, Seen, StaysShown}
use Rattle.board.specs.Sheets.{HasBits, IsPut}
use Rattle.board.specs.declared.source.Planes.{Planes}
use Rattle.orders.proofs.Claiming.{place_of}
use Rattle.board.proofs.ByCell.{get_bits, get_sample}

module _ (x : Planes) (n : ℕ) (values : List ℤ) (from : ℕ) where
  -- a part of a part that follows it or stands behind it
  pub in_front : (p q : List ℕ) (c : ℕ) → HasSample x n values from p c → HasSample x n values from (p ++ q) c
  in_front p q c had =
      let long = length-append p q in
      let l = had.there in
      let past = l.past in
      let cell = l.cell in
      let behind = l.behind in
      let within = l.within in
      record {
        there = record { past = past; cell = cell; behind = behind; within = omega (arith, within, long) };
        value = get_or_append_left p q 0 (place_of_cell x n c - from) (omega (arith, within, behind)) ∙ had.value;
      }

  pub in_back : (p q : List ℕ) (c : ℕ) → HasSample x n values (from + length p) q c → HasSample x n values from (p ++ q) c
  in_back p q c had =
      let long = length-append p q in
      let l = had.there in
      let past = l.past in
      let cell = l.cell in
      let behind = l.behind in
      let within = l.within in
      let k : ℕ = place_of_cell x n c in
      let there : k - from - length p ≡ k - (from + length p) = omega (arith, behind) in
      record {
        there = record { past = past; cell = cell; behind = omega (arith, behind); within = omega (arith, within, long) };
        value = get_or-append_right p q (length p) (k - from) 0 refl (omega (arith, behind)) ∙ ap (λ (m : ℕ). get_or q m 0) there ∙ had.value;
      }

-- the sample of a cell is its bits
pub bits_shown : (s : Seen) (values : List ℤ) (samples : List ℕ) (c : ℕ) → HasSample s.planes (length s.bits) values 0 samples c → HasBits values (seen_bits (beside s samples)) c
bits_shown s values samples c had =
    let none : place_of_cell s.planes (length s.bits) c - 0 ≡ place_of_cell s.planes (length s.bits) c = omega arith in
    get_sample s.planes s.bits samples c had.there.past had.there.cell ∙ ap (λ (k : ℕ). get_or samples k 0) (sym none) ∙ had.value

-- the bits of a cell that is kept as bits are the same beside other samples
pub bits_beside : (s : Seen) (values : List ℤ) (old new : List ℕ) (c : ℕ) → c < length s.bits → HasBits values (seen_bits (beside s old)) c → HasBits values (seen_bits (beside s new)) c
bits_beside s values old new c lt had = get_bits s.planes s.bits new c lt ∙ sym (get_bits s.planes s.bits old c lt) ∙ had

module _ (plan : Layout) (values : List ℤ) (s : Seen) where
  -- a piece all of whose cells have their samples is put
  pub put_shown : (samples : List ℕ) (j : ℕ) → IsShown plan values s 0 samples j → IsPut plan values (seen_bits (beside s samples)) j
  put_shown samples j shown c there = bits_shown s values samples c (shown c there)

  -- a piece before the samples that is put is put beside others
  pub put_beside : (old new : List ℕ) (to j : ℕ) → NoneShown plan s to → j < to → IsPut plan values (seen_bits (beside s old)) j → IsPut plan values (seen_bits (beside s new)) j
  put_beside old new to j none lt put c there = bits_beside s values old new c (none j lt c there) (put c there)

  -- a piece that is shown in a part is shown in two parts together
  pub shown_in_front : (from : ℕ) (p q : List ℕ) (j : ℕ) → IsShown plan values s from p j → IsShown plan values s from (p ++ q) j
  shown_in_front from p q j shown c there = in_front s.planes (length s.bits) values from p q c (shown c there)

  pub shown_in_back : (from : ℕ) (p q : List ℕ) (j : ℕ) → IsShown plan values s (from + length p) q j → IsShown plan values s from (p ++ q) j
  shown_in_back from p q j shown c there = in_back s.planes (length s.bits) values from p q c (shown c there)

  pub shown_still : (from : ℕ) (old new : List ℕ) (j : ℕ) → StaysShown s.planes (length s.bits) values from old new → IsShown plan values s from old j → IsShown plan values s from new j
  shown_still from old new j stays shown c there = stays c (shown c there)

  -- where the cell at each place of the own list has its sample, each own cell has
  pub all_shown : (from : ℕ) (part : List ℕ) (j : ℕ) (cells : List ℕ) → cells ≡ own_of plan j → ((k : ℕ) → k < length cells → HasSample s.planes (length s.bits) values from part (slice_index cells k))
      → IsShown plan values s from part j
  all_shown from part j cells is each c there =
      let place = place_of cells c (subst (λ (xs : List ℕ). Contains xs c) (sym is) there) in
      subst (HasSample s.planes (length s.bits) values from part) place.2 (each place.0 place.1)
