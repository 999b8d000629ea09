-- Lists of cells, by runs of cells that follow one another.
use Rattle.std.specs.Prelude.{◌≡◌, ℕ, ◌+◌, ◌≤◌, ◌<◌, ◌^◌, List, [], ◌∷◌, Some, length, flat_map, slice_get}
use Rattle.std.specs.List.{range_with_len}
use Rattle.orders.specs.declared.cell_runs.CellRun.{CellRun}

abbrev pub run_cells : CellRun → List ℕ
run_cells r = range_with_len r.first r.count

-- one run behind another
abbrev pub cells_of : List CellRun → List ℕ
cells_of rs = flat_map run_cells rs

-- cells are 32-bit numbers
abbrev pub IsRun : CellRun → Type 0
IsRun r = r.first + r.count < 2 ^ 32

-- each run knows how many cells come before it, from so many on
abbrev pub AreCounted : ℕ → List CellRun → Type 0
AreCounted n [] = Unit {0}
AreCounted n (r ∷ rs) = (r.before ≡ n) × AreCounted (n + r.count) rs

-- the run is one of these, and has the cell at this place of the list
abbrev pub HasPlace : List CellRun → CellRun → ℕ → Type 0
HasPlace rs r place = (k : ℕ) × (slice_get rs k ≡ Some r) × (r.before ≤ place) × (place < r.before + r.count)

-- the last of these runs ends before this cell
abbrev pub EndsAt : List CellRun → ℕ → Type 0
EndsAt rs first = (k : ℕ) × (r : CellRun) × (slice_get rs k ≡ Some r) × (k + 1 ≡ length rs) × (r.first + r.count ≡ first)
