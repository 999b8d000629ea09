-- What stands on a sheet.
use Rattle.std.proofs.Common.{◌≡◌, ◌⊎◌, ℕ, zero, suc, ◌+◌, ◌*◌, ◌-◌, ◌<◌, ◌≤◌, ℤ, List, [], ◌∷◌, ◌++◌, length, get_or, set, inl, inr, sym, ap, subst, ◌∙◌, arith, get_or-set_same, get_or-set_other}
use Rattle.std.specs.Prelude.{drop, slice_index, take, Contains}
use mathlib.Core.Logic.{dite}
use native.Mathlib.Decide.{ℕ_discrete}
use Rattle.std.proofs.lemmas.Bool.{cases_lt}
use Rattle.std.proofs.lemmas.List.{append-nil, ext_get_or, get_or-drop, get_or-map, get_or-take, length-append, length-drop, length-map, length-take-le, take-append-drop, take_more}
use Rattle.std.proofs.lemmas.List.Elements.{Contains-append_cases}
use Rattle.std.proofs.lemmas.List.FromFn.{fill_by_all, get_or-range_with_len, length-range_with_len}
use Rattle.std.proofs.lemmas.Grind.{flat_map-append}
use Rattle.std.proofs.Math.Seq.{get_or-append_right}
use Rattle.std.proofs.Math.ListN.{get_or-append}
use Rattle.orders.specs.CellRuns.{cells_of, run_cells}
use Rattle.orders.specs.declared.cell_runs.CellRun.{CellRun}
use Rattle.orders.proofs.Claiming.{place_of}
use Rattle.meaning.specs.Image.Raster.{natural}
use Rattle.board.specs.Layout.{Layout, own_of, picture_of, pieces_of, samples_in, shown_cell, value_at, IsSound, ShowsSamples}
use Rattle.board.specs.Sheets.{bits_at, HasBits, HasRow, IsPut}
use Rattle.board.specs.Words.{bits_of}
use Rattle.board.proofs.Colours.{same_pixel}
use Rattle.board.proofs.Samples.{sample_bits}

-- a cell that is set to its bits has them, and another that has its own keeps them
pub set_here : (values : List ℤ) (bits : List ℕ) (d v : ℕ) → d < length bits → v ≡ bits_of (value_at values d) → HasBits values (set bits d v) d
set_here values bits d v lt is = get_or-set_same bits d v 0 lt ∙ is

pub set_keeps : (values : List ℤ) (bits : List ℕ) (d v c : ℕ) → d < length bits → v ≡ bits_of (value_at values d) → HasBits values bits c → HasBits values (set bits d v) c
set_keeps values bits d v c lt is had = dite (ℕ_discrete c d)
    (λ same. subst (λ (n : ℕ). HasBits values (set bits d v) n) (sym same) (set_here values bits d v lt is))
    (λ other. get_or-set_other bits d c v 0 other ∙ had)

-- the bits of the value of a cell of a list
pub bits_at_place : (values : List ℤ) (cells bits : List ℕ) (i : ℕ) → bits ≡ bits_at values cells → i < length cells → slice_index bits i ≡ bits_of (value_at values (slice_index cells i))
bits_at_place values cells bits i are lt = ap (λ (xs : List ℕ). get_or xs i 0) are ∙ get_or-map (λ n. bits_of (value_at values n)) cells i 0 0 lt

-- a row of bits is those of the values of its cells, where these follow each other and have theirs
pub row_at : (values : List ℤ) (bits cells row : List ℕ) (first : ℕ) → row ≡ take (length cells) (drop first bits) → first + length cells ≤ length bits
    → ((k : ℕ) → k < length cells → slice_index cells k ≡ first + k)
    → ((k : ℕ) → k < length cells → get_or bits (slice_index cells k) 0 ≡ bits_of (value_at values (slice_index cells k))) → row ≡ bits_at values cells
row_at values bits cells row first is inside follow had =
    let window : List ℕ = take (length cells) (drop first bits) in
    let long : length window ≡ length cells = length-take-le (length cells) (drop first bits) (let dropped = length-drop first bits in omega (arith, dropped, inside)) in
    is ∙ ext_get_or 0 window (bits_at values cells) (long ∙ sym (length-map cells (λ n. bits_of (value_at values n)))) (λ k k_in.
    let lt : k < length cells = omega (arith, k_in, long) in
    get_or-take (length cells) (drop first bits) k 0 lt ∙ get_or-drop first bits k 0 ∙ ap (λ (n : ℕ). get_or bits n 0) (sym (follow k lt)) ∙ had k lt
    ∙ sym (get_or-map (λ n. bits_of (value_at values n)) cells k 0 0 lt))

-- one more cell of a row is set
pub row_set : (values : List ℤ) (now after : List ℕ) (first i v : ℕ) → first + i < length now → v ≡ bits_of (value_at values (first + i)) → after ≡ set now (first + i) v → HasRow values now first i → HasRow values after first (i + 1)
row_set values now after first i v room is set_is had m lt = subst (λ (bs : List ℕ). HasBits values bs (first + m)) (sym set_is) (elim (cases_lt m i) [
  | inl before ↦ set_keeps values now (first + i) v (first + m) room is (had m before)
  | inr past ↦
      let same : m ≡ i = omega (arith, past, lt) in
      subst (λ (n : ℕ). HasBits values (set now (first + i) v) (first + n)) (sym same) (set_here values now (first + i) v room is)
])

-- a row, and one that follows it
pub row_joined : (values : List ℤ) (bits : List ℕ) (first done more : ℕ) → HasRow values bits first done → HasRow values bits (first + done) more → HasRow values bits first (done + more)
row_joined values bits first done more had next k lt = elim (cases_lt k done) [
  | inl before ↦ had k before
  | inr past ↦ subst (HasBits values bits) (let e : first + done + (k - done) ≡ first + k = omega (arith, past) in e) (next (k - done) (omega (arith, past, lt)))
]

-- what was kept is kept in a row
pub row_kept : (values : List ℤ) (before after : List ℕ) (first count : ℕ) → ((c : ℕ) → HasBits values before c → HasBits values after c) → HasRow values before first count → HasRow values after first count
row_kept values before after first count more had k lt = more (first + k) (had k lt)

-- the cells of one run more
pub cells_more : (rs : List CellRun) (k : ℕ) (d : CellRun) → k < length rs → length (cells_of (take (k + 1) rs)) ≡ length (cells_of (take k rs)) + (get_or rs k d).count
cells_more rs k d less =
    let r = get_or rs k d in
    let before = take k rs in
    let long = length-append (cells_of before) (run_cells r ++ []) in
    let own = length-range_with_len r.first r.count in
    let none = ap length (append-nil (run_cells r)) in
    let all : length (cells_of (take (k + 1) rs)) ≡ length (cells_of before ++ (run_cells r ++ [])) = ap (λ (xs : List CellRun). length (cells_of xs)) (take_more rs k d less) ∙ ap length (flat_map-append run_cells before (r ∷ [])) in
    omega (arith, all, long, own, none)

-- a cell of a run or of one before it
pub run_ends : (rs : List CellRun) (k : ℕ) (d : CellRun) → k < length rs → (n : ℕ) → Contains (cells_of (take (k + 1) rs)) n
    → Contains (cells_of (take k rs)) n ⊎ (n < (get_or rs k d).first + (get_or rs k d).count)
run_ends rs k d less n there =
    let r = get_or rs k d in
    let is : cells_of (take (k + 1) rs) ≡ cells_of (take k rs) ++ (run_cells r ++ []) = ap (λ (xs : List CellRun). cells_of xs) (take_more rs k d less) ∙ flat_map-append run_cells (take k rs) (r ∷ []) in
    elim (Contains-append_cases (cells_of (take k rs)) (run_cells r ++ []) n (subst (λ (xs : List ℕ). Contains xs n) is there)) [
      | inl before ↦ inl before
      | inr here ↦
          let place = place_of (run_cells r) n (subst (λ (xs : List ℕ). Contains xs n) (append-nil (run_cells r)) here) in
          let low : place.0 < r.count = (let own = length-range_with_len r.first r.count in let lt = place.1 in omega (arith, own, lt)) in
          let at = get_or-range_with_len r.first r.count place.0 0 low in
          let is_n = place.2 in
          inr (omega (arith, at, is_n, low))
    ]

-- the cells of a run and of those before it are no more than all
pub run_within : (rs : List CellRun) (k : ℕ) (d : CellRun) → k < length rs → length (cells_of (take k rs)) + (get_or rs k d).count ≤ length (cells_of rs)
run_within rs k d less =
    let more = cells_more rs k d less in
    let parts = flat_map-append run_cells (take (k + 1) rs) (drop (k + 1) rs) in
    let all : length (cells_of rs) ≡ length (cells_of (take (k + 1) rs) ++ cells_of (drop (k + 1) rs)) = ap (λ (xs : List CellRun). length (cells_of xs)) (sym (take-append-drop (k + 1) rs)) ∙ ap length parts in
    let long = length-append (cells_of (take (k + 1) rs)) (cells_of (drop (k + 1) rs)) in
    omega (arith, more, all, long)

-- a cell of a run stands behind those of the runs before it
pub run_stands : (rs : List CellRun) (k : ℕ) (d : CellRun) → k < length rs → (j : ℕ) → j < (get_or rs k d).count
    → (length (cells_of (take k rs)) + j < length (cells_of rs)) × (slice_index (cells_of rs) (length (cells_of (take k rs)) + j) ≡ (get_or rs k d).first + j)
run_stands [] k d less j low = absurd (omega (arith, less))
run_stands (r ∷ rs) zero d less j low =
    let own = length-range_with_len r.first r.count in
    let long = length-append (run_cells r) (cells_of rs) in
    let within : j < length (run_cells r) = omega (arith, own, low) in
    (omega (arith, own, long, low), ap (λ (i : ℕ). get_or (cells_of (r ∷ rs)) i 0) (let e : 0 + j ≡ j = omega arith in e) ∙ get_or-append (run_cells r) (cells_of rs) 0 j within ∙ get_or-range_with_len r.first r.count j 0 low)
run_stands (r ∷ rs) (suc k) d less j low =
    let rest = run_stands rs k d (omega (arith, less)) j low in
    let before = length (cells_of (take k rs)) in
    let long = length-append (run_cells r) (cells_of rs) in
    let all = length-append (run_cells r) (cells_of (take k rs)) in
    let i = length (run_cells r ++ cells_of (take k rs)) + j in
    let there : i - length (run_cells r) ≡ before + j = omega (arith, all) in
    let within = rest.0 in
    (omega (arith, all, long, within), get_or-append_right (run_cells r) (cells_of rs) i 0 (omega (arith, all)) ∙ ap (λ (n : ℕ). get_or (cells_of rs) n 0) there ∙ rest.1)

pub others_kept : (values : List ℤ) (now after : List ℕ) (d v c : ℕ) → d < length now → v ≡ bits_of (value_at values d) → after ≡ set now d v → HasBits values now c → HasBits values after c
others_kept values now after d v c room is set_is had = subst (λ (bs : List ℕ). HasBits values bs c) (sym set_is) (set_keeps values now d v c room is had)

-- where all pieces are put, all cells have their bits
pub all_put : (plan : Layout) (values : List ℤ) (bits : List ℕ) → IsSound plan → ((j : ℕ) → j < pieces_of plan → IsPut plan values bits j) → (c : ℕ) → c < plan.cells → HasBits values bits c
all_put plan values bits sound each c lt = let owner = sound.whole c lt in each owner.0 owner.1 c owner.2

-- where each place of the own list has its bits, each cell of it has
pub all_have : (plan : Layout) (values : List ℤ) (bits : List ℕ) (j : ℕ) → ((k : ℕ) → k < length (own_of plan j) → HasBits values bits (slice_index (own_of plan j) k)) → IsPut plan values bits j
all_have plan values bits j each c in_it = let place = place_of (own_of plan j) c in_it in subst (HasBits values bits) place.2 (each place.0 place.1)

-- once one more sample of a colour is written
pub one_read : (samples : List ℕ) (m colour pixel v : ℕ) (below : colour < m) (word : ℕ → ℕ) → pixel * m + colour < length samples → v ≡ word pixel
    → ((k : ℕ) → k < pixel → get_or samples (k * m + colour) 0 ≡ word k) → (k : ℕ) → k < pixel + 1 → get_or (set samples (pixel * m + colour) v) (k * m + colour) 0 ≡ word k
one_read samples m colour pixel v below word room is had k lt = elim (cases_lt k pixel) [
  | inl before ↦
      get_or-set_other samples (pixel * m + colour) (k * m + colour) v 0 (λ e. let one = same_pixel k pixel colour colour m below below e in omega (arith, before, one))
      ∙ had k before
  | inr past ↦
      let same : k ≡ pixel = omega (arith, past, lt) in
      ap (λ (n : ℕ). get_or (set samples (pixel * m + colour) v) (n * m + colour) 0) same ∙ get_or-set_same samples (pixel * m + colour) v 0 room ∙ is ∙ ap word (sym same)
]

module _ (plan : Layout) (values : List ℤ) (bits : List ℕ) (sound : IsSound plan) (right : ShowsSamples plan values) (all : (c : ℕ) → c < plan.cells → HasBits values bits c) where
  -- the bits of a cell that is shown are the sample
  pub shown_bits : (n : ℕ) → n < samples_in plan → (slice_index bits (shown_cell plan n) ≡ natural (value_at values (shown_cell plan n))) × (natural (value_at values (shown_cell plan n)) ≤ 65535)
  shown_bits n lt =
      let bits = sample_bits plan.frame.ty (value_at values (shown_cell plan n)) sound.shape.ty (right n lt) in
      (all (shown_cell plan n) (sound.shown n lt) ∙ bits.0, bits.1)

  pub shown_small : (n : ℕ) → n < samples_in plan → slice_index bits (shown_cell plan n) < 65536
  shown_small n lt = let one = shown_bits n lt in let is = one.0 in let most = one.1 in omega (arith, is, most)

  -- samples that are the bits of their cells are the picture's
  pub bits_read : (samples : List ℕ) → length samples ≡ samples_in plan → ((n : ℕ) → n < samples_in plan → slice_index samples n ≡ slice_index bits (shown_cell plan n)) → samples ≡ (picture_of plan values).samples
  bits_read samples long reads = fill_by_all (λ n. natural (value_at values (shown_cell plan n))) samples (samples_in plan) 0 long (λ k lt. reads k lt ∙ (shown_bits k lt).0)
