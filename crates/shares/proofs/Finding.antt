-- Cells that are found among the own cells of needed pieces.
use Rattle.std.proofs.Common.{◌≡◌, ℕ, zero, suc, ◌+◌, ◌-◌, ◌<◌, ◌≤◌, List, [], ◌∷◌, length, take, drop, get_or, arith, ap, sym, ◌∙◌, subst, Some, inl, inr}
use Rattle.std.specs.List.{range_with_len}
use Rattle.std.specs.Prelude.{slice_get, Contains, All}
use Rattle.std.proofs.lemmas.Bool.{cases_eq}
use Rattle.std.proofs.lemmas.List.{get_or-take, length-take-le, take_rest}
use Rattle.std.proofs.lemmas.List.FromFn.{get_or-range_with_len, length-range_with_len}
use Rattle.std.proofs.lemmas.List.Elements.{All-append, All-contains, All-weaker, Contains-append_left, Contains-append_right}
use Rattle.std.proofs.Math.Seq.{take-add}
use Rattle.orders.specs.Work.{NeedsServe}
use Rattle.orders.specs.Lists.{own_lists, fetched_lists, needs_lists, own_of, fetched_of, needs_of}
use Rattle.orders.specs.CellRuns.{cells_of, run_cells}
use Rattle.orders.specs.declared.cell_runs.CellRun.{CellRun}
use Rattle.orders.specs.declared.lists.Piece.{Piece}
use Rattle.shares.specs.Served.{IsOwnOf}

-- what follows what was found
pub found_more : (P : ℕ → Type 0) (cells : List ℕ) (n count : ℕ) → All P (take n cells) → All P (take count (take (length cells - n) (drop n cells))) →
    All P (take (n + count) cells)
found_more P cells n count before later =
    let here : All P (take count (drop n cells)) = subst (λ (xs : List ℕ). All P (take count xs)) (take_rest cells n) later in
    subst (All P) (sym (take-add n count cells)) (All-append P (take n cells) (take count (drop n cells)) before here)

-- own cells of a needed piece
pub of_needed : (own : ℕ → List ℕ) (needs : List ℕ) (needed : ℕ) → Contains needs needed → (cells : List ℕ) → All (λ cell. Contains (own needed) cell) cells → All (IsOwnOf own needs) cells
of_needed own needs needed there cells all = All-weaker (λ cell. Contains (own needed) cell) (IsOwnOf own needs) (λ cell has. (needed, there, has)) cells all

-- what stands in a run stands in the list
run_has : (rs : List CellRun) (k : ℕ) (d : CellRun) → k < length rs → (cell : ℕ) → Contains (run_cells (get_or rs k d)) cell → Contains (cells_of rs) cell
run_has [] k d less cell has = absurd (omega (arith, less))
run_has (r ∷ rs) zero d less cell has = Contains-append_left (run_cells r) (cells_of rs) cell has
run_has (r ∷ rs) (suc k) d less cell has = Contains-append_right (run_cells r) (cells_of rs) cell (run_has rs k d (omega (arith, less)) cell has)

pub of_run : (rs : List CellRun) (k : ℕ) (d : CellRun) → k < length rs → (cells : List ℕ) → All (λ cell. Contains (run_cells (get_or rs k d)) cell) cells → All (λ cell. Contains (cells_of rs) cell) cells
of_run rs k d less cells all = All-weaker (λ cell. Contains (run_cells (get_or rs k d)) cell) (λ cell. Contains (cells_of rs) cell) (λ cell has. run_has rs k d less cell has) cells all

-- cells that follow one another, as far as the run goes in which the first one stands
pub in_run : (first count : ℕ) (cells : List ℕ) (len n : ℕ) → take len cells ≡ range_with_len (get_or cells 0 0) len → len ≤ length cells → n ≤ len → first ≤ get_or cells 0 0 →
    n ≤ count - (get_or cells 0 0 - first) → All (λ cell. Contains (range_with_len first count) cell) (take n cells)
in_run first count cells len n row within fewer low room k d less =
    let begin = get_or cells 0 0 in
    let long : length (take n cells) ≡ n = length-take-le n cells (omega (arith, within, fewer)) in
    let before : k < n = omega (arith, less, long) in
    let is : get_or (take n cells) k d ≡ begin + k =
    get_or-take n cells k d before ∙ sym (get_or-take len cells k d (omega (arith, before, fewer))) ∙ ap (λ (xs : List ℕ). get_or xs k d) row ∙ get_or-range_with_len begin len k d (omega (arith, before, fewer)) in
    let i = begin + k - first in
    let there : i < count = omega (arith, low, room, before) in
    let cell = get_or (take n cells) k d in
    let found : get_or (range_with_len first count) i cell ≡ cell = get_or-range_with_len first count i cell there ∙ (let e : first + i ≡ begin + k = omega (arith, low) in e) ∙ sym is in
    (i, (let e = length-range_with_len first count in omega (arith, there, e)), found)

-- one piece more is served
pub served_more : (pieces : List Piece) (p : ℕ) (piece : Piece) → slice_get pieces p ≡ Some piece → NeedsServe p (own_lists pieces) (fetched_lists pieces) (needs_lists pieces) →
    All (λ needed. needed < p) piece.needs.items → All (IsOwnOf (own_lists pieces) piece.needs.items) piece.fetched.items →
    NeedsServe (p + 1) (own_lists pieces) (fetched_lists pieces) (needs_lists pieces)
served_more pieces p piece at before earlier found = (
  λ q needed less has. elim (cases_eq q p) [
    | inl same ↦ (let here = subst (λ (o : _). Contains (needs_of o) needed) at (subst (λ (n : ℕ). Contains (needs_lists pieces n) needed) same has) in
        let below = All-contains (λ n. n < p) piece.needs.items needed earlier here in omega (arith, same, below))
    | inr other ↦ before.0 q needed (omega (arith, less, other)) has
  ],
  λ q cell less has. elim (cases_eq q p) [
    | inl same ↦ (let here = subst (λ (o : _). Contains (fetched_of o) cell) at (subst (λ (n : ℕ). Contains (fetched_lists pieces n) cell) same has) in
        let one = All-contains (IsOwnOf (own_lists pieces) piece.needs.items) piece.fetched.items cell found here in
        (one.0, subst (λ (n : ℕ). Contains (needs_lists pieces n) one.0) (sym same) (subst (λ (o : _). Contains (needs_of o) one.0) (sym at) one.1), one.2))
    | inr other ↦ before.1 q cell (omega (arith, less, other)) has
  ],
)
