-- Rows of cells of one colour, whose samples stand each as many places behind the one before as there are colours.
use Rattle.std.proofs.Common.{◌≡◌, ◌≢◌, ◌⊎◌, ℕ, ◌+◌, ◌-◌, ◌*◌, ◌<◌, ◌≤◌, ℤ, List, ◌++◌, length, get_or, set, inl, inr, refl, sym, ap, subst, ◌∙◌, arith, get_or-set_same, get_or-set_other}
use Rattle.std.specs.Prelude.{slice_index}
use Rattle.std.proofs.Math.Nat.{add-mul, mul-le-mul_right}
use Rattle.std.proofs.lemmas.Bool.{cases_lt}
use Rattle.std.proofs.Math.Seq.{get_or-append_right}
use Rattle.std.proofs.Math.ListN.{get_or-append}
use Rattle.board.specs.Kept.{all_bits, in_planes, sample_place, AreWritten}
use Rattle.board.specs.Seen.{place_of_cell, HasSample, HasSamples, LiesIn, StaysShown}
use Rattle.board.specs.Sheets.{AreOfRow, HasBits, HasRow}
use Rattle.board.specs.declared.source.Planes.{Planes}
use Rattle.board.proofs.ByCell.{get_sample, one_cell, place_inside, place_told, same_beside}

-- at first nothing is written
pub none_written : (numbers : List ℕ) (from place step : ℕ) (xs : List ℕ) → AreWritten numbers from 0 place step xs xs
none_written numbers from place step xs = record { there = λ k lt. absurd (omega (arith, lt)); others = λ i apart. refl }

-- one number more
pub one_written : (numbers : List ℕ) (from n place step v : ℕ) (old now : List ℕ) → 0 < step → place + n * step < length now → v ≡ slice_index numbers (from + n)
    → AreWritten numbers from n place step old now → AreWritten numbers from (n + 1) place step old (set now (place + n * step) v)
one_written numbers from n place step v old now some room is had = record {
  there = λ k lt. elim (cases_lt k n) [
    | inl before ↦
        let far : (k + 1) * step ≤ n * step = mul-le-mul_right step (omega (arith, before)) in
        let next = add-mul k 1 step in
        get_or-set_other now (place + n * step) (place + k * step) v 0 (λ e. omega (arith, e, far, next, some)) ∙ had.there k before
    | inr past ↦
        let same : n ≡ k = omega (arith, past, lt) in
        subst (λ (m : ℕ). get_or (set now (place + n * step) v) (place + m * step) 0 ≡ slice_index numbers (from + m)) same
        (get_or-set_same now (place + n * step) v 0 room ∙ is)
  ];
  others = λ i apart. get_or-set_other now (place + n * step) i v 0 (apart n (omega arith)) ∙ had.others i (λ k lt. apart k (omega (arith, lt)));
}

-- a row of numbers is put in place of as many
pub row_copied : (numbers front was row back : List ℕ) (from count place : ℕ) → length front ≡ place → length was ≡ count → length row ≡ count
    → ((k : ℕ) → k < count → slice_index row k ≡ slice_index numbers (from + k)) → AreWritten numbers from count place 1 (front ++ (was ++ back)) (front ++ (row ++ back))
row_copied numbers front was row back from count place ahead old long is = record {
  there = λ k lt.
      let at : place + k * 1 ≡ length front + k = omega (arith, ahead) in
      let behind : length front + k - length front ≡ k = omega arith in
      ap (λ (i : ℕ). get_or (front ++ (row ++ back)) i 0) at
      ∙ get_or-append_right front (row ++ back) (length front + k) 0 (omega arith)
      ∙ ap (λ (i : ℕ). get_or (row ++ back) i 0) behind
      ∙ get_or-append row back 0 k (omega (arith, lt, long))
      ∙ is k lt;
  others = λ i apart. elim (cases_lt i (length front)) [
    | inl before ↦ get_or-append front (row ++ back) 0 i before ∙ sym (get_or-append front (was ++ back) 0 i before)
    | inr past ↦
        let j : ℕ = i - length front in
        let beyond : count ≤ j = elim (cases_lt j count) [
          | inl within ↦ absurd (apart j within (omega (arith, past, ahead)))
          | inr beyond ↦ beyond
        ] in
        get_or-append_right front (row ++ back) i 0 past
        ∙ get_or-append_right row back j 0 (omega (arith, beyond, long))
        ∙ (λ t. get_or back (j - (long ∙ sym old) t) 0)
        ∙ sym (get_or-append_right front (was ++ back) i 0 past ∙ get_or-append_right was back j 0 (omega (arith, beyond, old)))
  ];
}

-- behind n other cells, a row of cells of one colour of these planes, of which the first has this pixel and this colour
pub record ColourRow (x : Planes) (n first count pixel colour : ℕ) : Type 0 where
  pub inside : first + count ≤ n + in_planes x
  pub stands : first ≡ n + (colour * x.pixels + pixel)
  pub one : pixel + count ≤ x.pixels

-- a cell is one of a row, or none of it
pub in_row : (first count c : ℕ) → ((k : ℕ) × (k < count) × (first + k ≡ c)) ⊎ (first ≤ c → c < first + count → ⊥)
in_row first count c = elim (cases_lt c first) [
  | inl before ↦ inr (λ past _. omega (arith, before, past))
  | inr past ↦ elim (cases_lt c (first + count)) [
    | inl within ↦ inl (c - first, omega (arith, past, within), omega (arith, past))
    | inr beyond ↦ inr (λ _ within. omega (arith, beyond, within))
  ]
]

module _ (x : Planes) (n first count pixel colour : ℕ) (row : ColourRow x n first count pixel colour) where
  cell_in : (k : ℕ) → k < count → first + k - n < in_planes x
  cell_in k lt = let inside = row.inside in let stands = row.stands in omega (arith, inside, stands, lt)

  -- where the sample of a cell of the row stands
  pub colour_place : (k : ℕ) → k < count → place_of_cell x n (first + k) ≡ pixel * x.colours + colour + k * x.colours
  colour_place k lt =
      let stands = row.stands in
      let one = row.one in
      let before : first + k - n ≡ colour * x.pixels + (pixel + k) = omega (arith, stands) in
      let apart = add-mul pixel k x.colours in
      ap (sample_place x) before ∙ place_told x (pixel + k) colour (omega (arith, one, lt))
      ∙ (let e : (pixel + k) * x.colours + colour ≡ pixel * x.colours + colour + k * x.colours = omega (arith, apart) in e)

  -- it is one of the samples
  pub colour_within : (k : ℕ) → k < count → pixel * x.colours + colour + k * x.colours < in_planes x
  colour_within k lt = let below = place_inside x (first + k - n) (cell_in k lt) in let at = colour_place k lt in omega (arith, below, at)

  -- the sample of a cell that is none of the row stands elsewhere
  pub other_place : (c : ℕ) → n ≤ c → c < n + in_planes x → (first ≤ c → c < first + count → ⊥) → (k : ℕ) → k < count → place_of_cell x n c ≢ pixel * x.colours + colour + k * x.colours
  other_place c past lt outside k k_lt is =
      let stands = row.stands in
      let same : c - n ≡ first + k - n = one_cell x (c - n) (first + k - n) (omega (arith, past, lt)) (cell_in k k_lt) (is ∙ sym (colour_place k k_lt)) in
      outside (omega (arith, same, past, stands)) (omega (arith, same, past, stands, k_lt))

-- ---- once the numbers of a row's values are written where its samples stand

module _ (x : Planes) (values : List ℤ) (bits numbers old new : List ℕ) (first from count pixel colour : ℕ) (row : ColourRow x (length bits) first count pixel colour)
    (are : AreOfRow values numbers from first count) (written : AreWritten numbers from count (pixel * x.colours + colour) x.colours old new) where
  -- the row has the bits of its values
  pub row_put : HasRow values (all_bits x bits new) first count
  row_put k lt =
      let inside = row.inside in
      let stands = row.stands in
      get_sample x bits new (first + k) (omega (arith, stands)) (omega (arith, inside, lt))
      ∙ ap (λ (m : ℕ). get_or new m 0) (colour_place x (length bits) first count pixel colour row k lt) ∙ written.there k lt ∙ are k lt

  -- a cell that had its bits has them still
  pub put_stays : (c : ℕ) → HasBits values (all_bits x bits old) c → HasBits values (all_bits x bits new) c
  put_stays c had = elim (in_row first count c) [
    | inl (k, lt, is) ↦ subst (HasBits values (all_bits x bits new)) is (row_put k lt)
    | inr outside ↦
        same_beside x bits old new c (λ past lt. written.others (place_of_cell x (length bits) c) (other_place x (length bits) first count pixel colour row c past lt outside)) ∙ had
  ]

module _ (x : Planes) (n : ℕ) (values : List ℤ) (numbers part new : List ℕ) (first given count pixel colour from : ℕ) (row : ColourRow x n first count pixel colour)
    (are : AreOfRow values numbers given first count) (behind : from ≤ pixel * x.colours + colour)
    (within : pixel * x.colours + colour + (count - 1) * x.colours < from + length part) where
  -- all its samples stand in the part
  pub part_room : (k : ℕ) → k < count → pixel * x.colours + colour - from + k * x.colours < length part
  part_room k lt = let most : k * x.colours ≤ (count - 1) * x.colours = mul-le-mul_right x.colours (omega (arith, lt)) in omega (arith, most, behind, within)

  module _ (long : length new ≡ length part) (written : AreWritten numbers given count (pixel * x.colours + colour - from) x.colours part new) where
    -- the row has its samples
    pub row_shown : HasSamples x n values from new first count
    row_shown k lt =
        let inside = row.inside in
        let stands = row.stands in
        let room = part_room k lt in
        let at = colour_place x n first count pixel colour row k lt in
        let here : place_of_cell x n (first + k) - from ≡ pixel * x.colours + colour - from + k * x.colours = omega (arith, at, behind) in
        record {
          there = record { past = omega (arith, stands); cell = omega (arith, inside, lt); behind = omega (arith, at, behind); within = omega (arith, at, room, behind, long) };
          value = ap (λ (m : ℕ). get_or new m 0) here ∙ written.there k lt ∙ are k lt;
        }

    -- a cell that had its sample has it still
    pub shown_stays : StaysShown x n values from part new
    shown_stays c had = elim (in_row first count c) [
      | inl (k, lt, is) ↦ subst (HasSample x n values from new) is (row_shown k lt)
      | inr outside ↦
          let there = had.there in
          let ahead = there.behind in
          record {
            there = subst (λ (m : ℕ). LiesIn x n from m c) (sym long) there;
            value = written.others (place_of_cell x n c - from)
                (λ k lt is. other_place x n first count pixel colour row c there.past there.cell outside k lt (omega (arith, is, ahead, behind))) ∙ had.value;
          }
    ]
