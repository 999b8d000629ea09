-- Pixels of three colours that follow one another: their cells stand plane by plane, and their samples side by side.
use Rattle.std.proofs.Common.{◌≡◌, ◌≢◌, ℕ, ◌+◌, ◌-◌, ◌*◌, ◌<◌, ◌≤◌, ℤ, List, length, take, get_or, set, inl, inr, refl, sym, ap, subst, ◌∙◌, arith}
use Rattle.std.proofs.Common.{get_or-set_same, get_or-set_other}
use Rattle.std.specs.Prelude.{slice_index}
use Rattle.std.proofs.Math.Seq.{lt-length-set}
use Rattle.std.proofs.lemmas.Bool.{cases_lt}
use Rattle.std.proofs.lemmas.List.{take_all}
use Rattle.orders.specs.CellRuns.{cells_of}
use Rattle.orders.specs.declared.cell_runs.CellRun.{CellRun}
use Rattle.board.specs.Kept.{all_bits, AreOfPixels, AreWoven}
use Rattle.board.specs.Layout.{value_at}
use Rattle.board.specs.Seen.{place_of_cell}
use Rattle.board.specs.Sheets.{bits_at, HasBits, HasRow}
use Rattle.board.specs.Words.{bits_of}
use Rattle.board.specs.declared.source.Planes.{Planes}
use Rattle.board.proofs.ByCell.{get_sample, same_beside}
use Rattle.board.proofs.ColourRows.{colour_place, in_row, other_place, ColourRow}
use Rattle.board.proofs.Sheets.{bits_at_place, cells_more, run_stands}

-- three bytes are written side by side
module _ (xs : List ℕ) (p u v w : ℕ) (room : p + 2 < length xs) where
  abbrev all_three : List ℕ
  all_three = set (set (set xs p u) (p + 1) v) (p + 2) w

  three_apart : (i : ℕ) → i ≢ p → i ≢ p + 1 → i ≢ p + 2 → get_or all_three i 0 ≡ get_or xs i 0
  three_apart i n m k = get_or-set_other (set (set xs p u) (p + 1) v) (p + 2) i w 0 k ∙ get_or-set_other (set xs p u) (p + 1) i v 0 m ∙ get_or-set_other xs p i u 0 n

  three_one : get_or all_three p 0 ≡ u
  three_one =
      get_or-set_other (set (set xs p u) (p + 1) v) (p + 2) p w 0 (λ e. omega (arith, e)) ∙ get_or-set_other (set xs p u) (p + 1) p v 0 (λ e. omega (arith, e))
      ∙ get_or-set_same xs p u 0 (omega (arith, room))

  three_two : get_or all_three (p + 1) 0 ≡ v
  three_two = get_or-set_other (set (set xs p u) (p + 1) v) (p + 2) (p + 1) w 0 (λ e. omega (arith, e)) ∙ get_or-set_same (set xs p u) (p + 1) v 0 (lt-length-set xs p u (omega (arith, room)))

  three_three : get_or all_three (p + 2) 0 ≡ w
  three_three = get_or-set_same (set (set xs p u) (p + 1) v) (p + 2) w 0 (lt-length-set (set xs p u) (p + 1) v (lt-length-set xs p u room))

-- at first nothing is written
pub none_woven : (numbers : List ℕ) (count place : ℕ) (xs : List ℕ) → AreWoven numbers count 0 place xs xs
none_woven numbers count place xs = record {
  one = λ k lt. absurd (omega (arith, lt));
  two = λ k lt. absurd (omega (arith, lt));
  three = λ k lt. absurd (omega (arith, lt));
  others = λ i apart. refl;
}

-- one pixel more
module _ (numbers : List ℕ) (count n place u v w : ℕ) (old now : List ℕ) (room : place + n * 3 + 2 < length now) (had : AreWoven numbers count n place old now) where
  abbrev new : List ℕ
  new = set (set (set now (place + n * 3) u) (place + n * 3 + 1) v) (place + n * 3 + 2) w

  kept : (i : ℕ) → i ≢ place + n * 3 → i ≢ place + n * 3 + 1 → i ≢ place + n * 3 + 2 → get_or new i 0 ≡ get_or now i 0
  kept = three_apart now (place + n * 3) u v w room

  pub one_woven : u ≡ slice_index numbers n → v ≡ slice_index numbers (count + n) → w ≡ slice_index numbers (count + count + n) → AreWoven numbers count (n + 1) place old new
  one_woven u_is v_is w_is = record {
    one = λ k lt. elim (cases_lt k n) [
      | inl before ↦ kept (place + k * 3) (λ e. omega (arith, e, before)) (λ e. omega (arith, e, before)) (λ e. omega (arith, e, before)) ∙ had.one k before
      | inr past ↦
          let same : n ≡ k = omega (arith, past, lt) in
          subst (λ (m : ℕ). get_or new (place + m * 3) 0 ≡ slice_index numbers m) same (three_one now (place + n * 3) u v w room ∙ u_is)
    ];
    two = λ k lt. elim (cases_lt k n) [
      | inl before ↦ kept (place + k * 3 + 1) (λ e. omega (arith, e, before)) (λ e. omega (arith, e, before)) (λ e. omega (arith, e, before)) ∙ had.two k before
      | inr past ↦
          let same : n ≡ k = omega (arith, past, lt) in
          subst (λ (m : ℕ). get_or new (place + m * 3 + 1) 0 ≡ slice_index numbers (count + m)) same (three_two now (place + n * 3) u v w room ∙ v_is)
    ];
    three = λ k lt. elim (cases_lt k n) [
      | inl before ↦ kept (place + k * 3 + 2) (λ e. omega (arith, e, before)) (λ e. omega (arith, e, before)) (λ e. omega (arith, e, before)) ∙ had.three k before
      | inr past ↦
          let same : n ≡ k = omega (arith, past, lt) in
          subst (λ (m : ℕ). get_or new (place + m * 3 + 2) 0 ≡ slice_index numbers (count + count + m)) same (three_three now (place + n * 3) u v w room ∙ w_is)
    ];
    others = λ i apart.
        let here = apart n (omega arith) in
        kept i here.0 here.1 here.2 ∙ had.others i (λ k lt. apart k (omega (arith, lt)));
  }

-- ---- once the numbers of the values of such pixels' cells are written where their samples stand

module _ (x : Planes) (values : List ℤ) (bits cells numbers old new : List ℕ) (pixel count : ℕ)
    (of : AreOfPixels x (length bits) cells pixel count) (are : numbers ≡ bits_at values cells) (woven : AreWoven numbers count count (pixel * 3) old new) where
  abbrev n : ℕ
  n = length bits

  abbrev after : List ℕ
  after = all_bits x bits new

  -- as many colours as there are
  three_of : (m : ℕ) → m * x.colours ≡ m * 3
  three_of m = ap (λ c. m * c) of.colours

  row_one : ColourRow x n (n + pixel) count pixel 0
  row_one = let all = three_of x.pixels in let one = of.inside in record { inside = omega (arith, all, one); stands = omega arith; one = one }

  row_two : ColourRow x n (n + x.pixels + pixel) count pixel 1
  row_two = let all = three_of x.pixels in let one = of.inside in record { inside = omega (arith, all, one); stands = omega arith; one = one }

  row_three : ColourRow x n (n + x.pixels + x.pixels + pixel) count pixel 2
  row_three = let all = three_of x.pixels in let one = of.inside in record { inside = omega (arith, all, one); stands = omega arith; one = one }

  -- the cells of one colour have the bits of their values
  colour_put : (colour first behind : ℕ) → ColourRow x n first count pixel colour → behind + count ≤ length cells
      → ((k : ℕ) → k < count → slice_index cells (behind + k) ≡ first + k)
      → ((k : ℕ) → k < count → slice_index new (pixel * 3 + k * 3 + colour) ≡ slice_index numbers (behind + k)) → HasRow values after first count
  colour_put colour first behind row within cell there k lt =
      let inside = row.inside in
      let stands = row.stands in
      let own = three_of pixel in
      let more = three_of k in
      let at = colour_place x n first count pixel colour row k lt in
      let here : place_of_cell x n (first + k) ≡ pixel * 3 + k * 3 + colour = omega (arith, at, own, more) in
      get_sample x bits new (first + k) (omega (arith, stands)) (omega (arith, inside, lt))
      ∙ ap (λ (m : ℕ). get_or new m 0) here ∙ there k lt
      ∙ bits_at_place values cells numbers (behind + k) are (omega (arith, within, lt)) ∙ ap (λ (m : ℕ). bits_of (value_at values m)) (cell k lt)

  put_one : HasRow values after (n + pixel) count
  put_one =
      let long = of.all in
      colour_put 0 (n + pixel) 0 row_one (omega (arith, long)) (λ k lt. ap (slice_index cells) (let e : 0 + k ≡ k = omega arith in e) ∙ of.one k lt)
      (λ k lt. ap (slice_index new) (let e : pixel * 3 + k * 3 + 0 ≡ pixel * 3 + k * 3 = omega arith in e) ∙ woven.one k lt ∙ ap (slice_index numbers) (let e : k ≡ 0 + k = omega arith in e))

  put_two : HasRow values after (n + x.pixels + pixel) count
  put_two = let long = of.all in colour_put 1 (n + x.pixels + pixel) count row_two (omega (arith, long)) of.two woven.two

  put_three : HasRow values after (n + x.pixels + x.pixels + pixel) count
  put_three = let long = of.all in colour_put 2 (n + x.pixels + x.pixels + pixel) (count + count) row_three (omega (arith, long)) of.three woven.three

  -- all cells have the bits of their values
  pub pixels_put : (k : ℕ) → k < length cells → HasBits values after (slice_index cells k)
  pixels_put k lt = elim (cases_lt k count) [
    | inl one ↦ subst (HasBits values after) (sym (of.one k one)) (put_one k one)
    | inr past ↦ elim (cases_lt k (count + count)) [
      | inl two ↦
          let j : ℕ = k - count in
          let low : j < count = omega (arith, past, two) in
          let at : k ≡ count + j = omega (arith, past) in
          subst (HasBits values after) (sym (ap (slice_index cells) at ∙ of.two j low)) (put_two j low)
      | inr beyond ↦
          let j : ℕ = k - (count + count) in
          let long = of.all in
          let low : j < count = omega (arith, beyond, lt, long) in
          let at : k ≡ count + count + j = omega (arith, beyond) in
          subst (HasBits values after) (sym (ap (slice_index cells) at ∙ of.three j low)) (put_three j low)
    ]
  ]

  -- a cell that had its bits has them still
  pub pixels_stay : (c : ℕ) → HasBits values (all_bits x bits old) c → HasBits values after c
  pixels_stay c had = elim (in_row (n + pixel) count c) [
    | inl (k, lt, is) ↦ subst (HasBits values after) is (put_one k lt)
    | inr not_one ↦ elim (in_row (n + x.pixels + pixel) count c) [
      | inl (k, lt, is) ↦ subst (HasBits values after) is (put_two k lt)
      | inr not_two ↦ elim (in_row (n + x.pixels + x.pixels + pixel) count c) [
        | inl (k, lt, is) ↦ subst (HasBits values after) is (put_three k lt)
        | inr not_three ↦
            same_beside x bits old new c (λ past lt. woven.others (place_of_cell x n c) (λ k k_lt.
            let own = three_of pixel in
            let more = three_of k in (
              λ e. other_place x n (n + pixel) count pixel 0 row_one c past lt not_one k k_lt (omega (arith, e, own, more)),
              λ e. other_place x n (n + x.pixels + pixel) count pixel 1 row_two c past lt not_two k k_lt (omega (arith, e, own, more)),
              λ e. other_place x n (n + x.pixels + x.pixels + pixel) count pixel 2 row_three c past lt not_three k k_lt (omega (arith, e, own, more)),
            ))) ∙ had
      ]
    ]
  ]

-- three runs of as many cells, each behind the one before by the pixels of a plane, are the cells of pixels
module _ (x : Planes) (n : ℕ) (runs : List CellRun) (d : CellRun) (three : length runs ≡ 3) (colours : x.colours ≡ 3)
    (second_long : (get_or runs 1 d).count ≡ (get_or runs 0 d).count) (second_at : (get_or runs 1 d).first ≡ (get_or runs 0 d).first + x.pixels)
    (third_long : (get_or runs 2 d).count ≡ (get_or runs 1 d).count) (third_at : (get_or runs 2 d).first ≡ (get_or runs 1 d).first + x.pixels)
    (past : n ≤ (get_or runs 0 d).first) (short : (get_or runs 0 d).count ≤ x.pixels) (room : (get_or runs 0 d).first - n ≤ x.pixels - (get_or runs 0 d).count) where
  abbrev first : ℕ
  first = (get_or runs 0 d).first

  abbrev count : ℕ
  count = (get_or runs 0 d).count

  none_before : length (cells_of (take 0 runs)) ≡ 0
  none_before = refl

  one_before : length (cells_of (take 1 runs)) ≡ count
  one_before = let more = cells_more runs 0 d (omega (arith, three)) in let none = none_before in omega (arith, more, none)

  two_before : length (cells_of (take 2 runs)) ≡ count + count
  two_before = let more = cells_more runs 1 d (omega (arith, three)) in let one = one_before in omega (arith, more, one, second_long)

  all_there : length (cells_of runs) ≡ count + count + count
  all_there =
      let more = cells_more runs 2 d (omega (arith, three)) in
      let two = two_before in
      let whole : length (cells_of (take 3 runs)) ≡ length (cells_of runs) = ap (λ (rs : List CellRun). length (cells_of rs)) (take_all 3 runs (omega (arith, three))) in
      omega (arith, more, two, whole, second_long, third_long)

  pub pixels_found : AreOfPixels x n (cells_of runs) (first - n) count
  pixels_found = record {
    colours = colours;
    inside = omega (arith, short, room);
    all = all_there;
    one = λ k lt.
        let none = none_before in
        let at : k ≡ length (cells_of (take 0 runs)) + k = omega (arith, none) in
        ap (slice_index (cells_of runs)) at ∙ (run_stands runs 0 d (omega (arith, three)) k lt).1 ∙ (let e : first + k ≡ n + (first - n) + k = omega (arith, past) in e);
    two = λ k lt.
        let one = one_before in
        let at : count + k ≡ length (cells_of (take 1 runs)) + k = omega (arith, one) in
        ap (slice_index (cells_of runs)) at ∙ (run_stands runs 1 d (omega (arith, three)) k (omega (arith, lt, second_long))).1
        ∙ (let e : (get_or runs 1 d).first + k ≡ n + x.pixels + (first - n) + k = omega (arith, past, second_at) in e);
    three = λ k lt.
        let two = two_before in
        let at : count + count + k ≡ length (cells_of (take 2 runs)) + k = omega (arith, two) in
        ap (slice_index (cells_of runs)) at ∙ (run_stands runs 2 d (omega (arith, three)) k (omega (arith, lt, second_long, third_long))).1
        ∙ (let e : (get_or runs 2 d).first + k ≡ n + x.pixels + x.pixels + (first - n) + k = omega (arith, past, second_at, third_at) in e);
  }
