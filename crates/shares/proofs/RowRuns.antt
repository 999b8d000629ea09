-- Rows of cells as runs.
use Rattle.std.proofs.Common.{◌≡◌, ℕ, zero, suc, ◌+◌, ◌*◌, ◌≤◌, ◌<◌, ◌-◌, List, [], ◌∷◌, ◌++◌, length, map, flat_map, take, get_or, append-nil, arith, ap, refl, sym, ◌∙◌}
use Rattle.std.specs.List.{range_with_len}
use Rattle.std.proofs.lemmas.Grind.{flat_map-append}
use Rattle.std.proofs.lemmas.List.{length-append, map-append, take_more}
use Rattle.std.proofs.lemmas.List.FromFn.{get_or-range_with_len, length-range_with_len}
use Rattle.std.proofs.Math.ListN.{get_or-append}
use Rattle.std.proofs.Math.Seq.{get_or-append_right}
use Rattle.orders.specs.declared.cell_runs.CellRun.{CellRun}
use Rattle.orders.specs.CellRuns.{cells_of, run_cells}
use Rattle.shares.specs.Taken.{HasRun}

-- how many cells some rows of one length have
pub rows_long : (f : ℕ → ℕ) (count : ℕ) (xs : List ℕ) → length (flat_map (λ m. range_with_len (f m) count) xs) ≡ length xs * count
rows_long f count [] = omega arith
rows_long f count (x ∷ xs) =
    let rest = rows_long f count xs in
    let long = length-append (range_with_len (f x) count) (flat_map (λ m. range_with_len (f m) count) xs) in
    let own = length-range_with_len (f x) count in omega (arith, rest, long, own)

raised_row : (first a n : ℕ) → map (λ k. first + k) (range_with_len a n) ≡ range_with_len (first + a) n
raised_row first a zero = refl
raised_row first a (suc n) =
    ap (λ (xs : List ℕ). (first + a) ∷ xs) (raised_row first (a + 1) n ∙ ap (λ (b : ℕ). range_with_len b n) (let e : first + (a + 1) ≡ first + a + 1 = omega arith in e))

-- the cells of rows, each raised
pub raised_rows : (first : ℕ) (f g : ℕ → ℕ) → ((m : ℕ) → first + f m ≡ g m) → (count : ℕ) (xs : List ℕ) →
    map (λ k. first + k) (flat_map (λ m. range_with_len (f m) count) xs) ≡ flat_map (λ m. range_with_len (g m) count) xs
raised_rows first f g same count [] = refl
raised_rows first f g same count (x ∷ xs) =
    map-append (λ k. first + k) (range_with_len (f x) count) (flat_map (λ m. range_with_len (f m) count) xs)
    ∙ ap (λ (ys : List ℕ). ys ++ map (λ k. first + k) (flat_map (λ m. range_with_len (f m) count) xs)) (raised_row first (f x) count ∙ ap (λ (a : ℕ). range_with_len a count) (same x))
    ∙ ap (λ (ys : List ℕ). range_with_len (g x) count ++ ys) (raised_rows first f g same count xs)

-- ---- a run among the cells of a list of runs

-- the cells of one run more
pub cells_more : (rs : List CellRun) (k : ℕ) (d : CellRun) → k < length rs → length (cells_of (take (k + 1) rs)) ≡ length (cells_of (take k rs)) + (get_or rs k d).count
cells_more rs k d less =
    let r = get_or rs k d in
    let before = take k rs in
    let long = length-append (cells_of before) (run_cells r ++ []) in
    let own = length-range_with_len r.first r.count in
    let none = ap length (append-nil (run_cells r)) in
    let all : length (cells_of (take (k + 1) rs)) ≡ length (cells_of before ++ (run_cells r ++ [])) = ap (λ (xs : List CellRun). length (cells_of xs)) (take_more rs k d less) ∙ ap length (flat_map-append run_cells before (r ∷ [])) in
    omega (arith, all, long, own, none)

-- it stands behind those of the runs before it
pub run_stands : (rs : List CellRun) (k : ℕ) (d : CellRun) → k < length rs → HasRun (cells_of rs) (length (cells_of (take k rs))) (get_or rs k d)
run_stands [] k d less j low = absurd (omega (arith, less))
run_stands (r ∷ rs) zero d less j low =
    let own = length-range_with_len r.first r.count in
    let long = length-append (run_cells r) (cells_of rs) in
    let within : j < length (run_cells r) = omega (arith, own, low) in
    (omega (arith, own, long, low), ap (λ (i : ℕ). get_or (cells_of (r ∷ rs)) i 0) (let e : 0 + j ≡ j = omega arith in e) ∙ get_or-append (run_cells r) (cells_of rs) 0 j within ∙ get_or-range_with_len r.first r.count j 0 low)
run_stands (r ∷ rs) (suc k) d less j low =
    let rest = run_stands rs k d (omega (arith, less)) j low in
    let before = length (cells_of (take k rs)) in
    let long = length-append (run_cells r) (cells_of rs) in
    let all = length-append (run_cells r) (cells_of (take k rs)) in
    let i = length (run_cells r ++ cells_of (take k rs)) + j in
    let there : i - length (run_cells r) ≡ before + j = omega (arith, all) in
    let within = rest.0 in
    (omega (arith, all, long, within), get_or-append_right (run_cells r) (cells_of rs) i 0 (omega (arith, all)) ∙ ap (λ (n : ℕ). get_or (cells_of rs) n 0) there ∙ rest.1)
