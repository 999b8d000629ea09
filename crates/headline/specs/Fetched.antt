-- The cells that a piece fetches.
use Rattle.std.specs.Prelude.{if◌then◌else◌, List, [], ◌++◌, map, flat_map, int_le, ◌||◌, Bool, true, false}
use Rattle.plan.specs.Plan.{Statement, Seq, For, Let, First, Guard, Alloc, Fetch, Store, Publish, Statements, Empty, Then}
use Rattle.plan.specs.Symbols.{Symbols, bind, form_value, largest, turns, points}
use Rattle.plan.specs.Certificate.Cells.{Cell, cell}
use Rattle.plan.specs.Semantics.Actions.{after}

-- the cells that the fetch lines of a statement read, line after line in the order of its run, and for each line the points
-- of its region with the first coordinate fastest
abbrev mutual
  pub fetched_cells : Statement → Symbols → List Cell
  fetched_cells (Seq all) s = block_fetched_cells all s
  fetched_cells (For i x kind body) s = flat_map (λ z. fetched_cells body (bind s i z (int_le z (largest s x.lower)))) (turns s x)
  fetched_cells (Let i pick forms) s = []
  fetched_cells (First i a b) s = if s.first i then fetched_cells a s else fetched_cells b s
  fetched_cells (Guard low high body) s = if int_le (form_value low s) (form_value high s) then fetched_cells body s else []
  fetched_cells (Alloc b f places) s = []
  fetched_cells (Fetch b g region) s = map (cell g) (points s region)
  fetched_cells (Store b k at e) s = []
  fetched_cells (Publish c) s = []

  pub block_fetched_cells : Statements → Symbols → List Cell
  block_fetched_cells Empty s = []
  block_fetched_cells (Then a rest) s = fetched_cells a s ++ block_fetched_cells rest (after a s)

-- some line of the statement fetches; of one that has none no cell is fetched
abbrev mutual
  pub fetches : Statement → Bool
  fetches (Seq all) = block_fetches all
  fetches (For i x kind body) = fetches body
  fetches (Let i pick forms) = false
  fetches (First i a b) = fetches a || fetches b
  fetches (Guard low high body) = fetches body
  fetches (Alloc b f places) = false
  fetches (Fetch b g region) = true
  fetches (Store b k at e) = false
  fetches (Publish c) = false

  pub block_fetches : Statements → Bool
  block_fetches Empty = false
  block_fetches (Then a rest) = fetches a || block_fetches rest
