-- Where the statement ends at which a claim's line stands.
use Rattle.std.specs.Prelude.{ℕ, zero, suc, ◌-◌, ◌==◌, nat_lt, if◌then◌else◌, List, [], ◌∷◌, ◌++◌, length, Option, Some, None}
use Rattle.plan.specs.Plan.{Statement, Seq, For, Let, First, Guard, Alloc, Fetch, Store, Publish, Statements, Empty, Then, Group}
use Rattle.plan.specs.Lines.{lines, group_lines}
use Rattle.soundness.specs.Outline.Forms.{grid_symbols}
use Rattle.validation.specs.Groups.Lines.{buffers_after, symbols_after}

-- where a statement stands: the symbols of the grid, of the loops round it and of lines `let` before it, the innermost last, those
-- of the loops alone, and the buffers in scope
pub record Spot : Type 0 where
  pub symbols : List ℕ
  pub loops : List ℕ
  pub buffers : List ℕ

-- inside a loop over the symbol
abbrev pub in_loop : ℕ → Spot → Spot
in_loop i x = record { symbols = x.symbols ++ i ∷ []; loops = x.loops ++ i ∷ []; buffers = x.buffers }

-- behind a statement that stands there
abbrev pub past : Statement → Spot → Spot
past a x = record { symbols = symbols_after a x.symbols; loops = x.loops; buffers = buffers_after a x.buffers }

-- the line is the one that ends a statement
abbrev pub ends_at : Spot → ℕ → ℕ → Option Spot
ends_at x at k = if at == k then Some x else None

-- what holds in a body of so many lines, or at the line that ends it
abbrev pub in_body : ℕ → ℕ → Option Spot → Spot → Option Spot
in_body count k inner x = if nat_lt k count then inner else ends_at x count k

-- of a part for the first turn and the line before it
abbrev pub first_at : (ℕ → Option Spot) → ℕ → Option Spot
first_at inner zero = None
first_at inner (suc k) = inner k

-- the same for a part for later turns, whose first line is the `else` before it
abbrev pub later_at : ℕ → (ℕ → Option Spot) → Spot → ℕ → Option Spot
later_at count inner x zero = None
later_at count inner x (suc k) = in_body count k (inner k) x

-- Lines are counted from the statement's first one, which is 0. Where the statement stands that ends at a line, seen behind it,
-- in a statement that stands here; none where no statement ends at the line.
abbrev mutual
  pub spot_at : Statement → Spot → ℕ → Option Spot
  spot_at (Seq all) x k = block_spot_at all x k
  spot_at (For i span kind body) x zero = None
  spot_at (For i span kind body) x (suc k) = in_body (lines body) k (spot_at body (in_loop i x) k) x
  spot_at (Let i pick forms) x k = ends_at (past (Let i pick forms) x) 0 k
  spot_at (First i a b) x zero = None
  spot_at (First i a b) x (suc k) = if nat_lt k (lines a) then spot_at a x k else later_at (lines b) (λ j. spot_at b x j) x (k - lines a)
  spot_at (Guard low high body) x zero = None
  spot_at (Guard low high body) x (suc k) = in_body (lines body) k (spot_at body x k) x
  spot_at (Alloc b f places) x k = ends_at (past (Alloc b f places) x) 0 k
  spot_at (Fetch b g region) x k = ends_at x 0 k
  spot_at (Store b d at e) x k = ends_at x 0 k
  spot_at (Publish c) x k = ends_at x 0 k

  pub block_spot_at : Statements → Spot → ℕ → Option Spot
  block_spot_at Empty x k = None
  block_spot_at (Then a rest) x k = if nat_lt k (lines a) then spot_at a x k else block_spot_at rest (past a x) (k - lines a)

-- where a group's body begins
abbrev pub group_spot : Group → Spot
group_spot g = record { symbols = grid_symbols (length g.grid); loops = []; buffers = [] }

-- the same of a group's lines, of which the first, its line `group`, is 0
abbrev pub group_spot_at : Group → ℕ → Option Spot
group_spot_at g zero = None
group_spot_at g (suc k) = spot_at g.body (group_spot g) k

-- where a statement ends: the group that has the line, and where in it the statement stands
pub record Place : Type 0 where
  pub group : Group
  pub spot : Spot

-- where a statement of the group ends, if one does
abbrev pub place_with : Group → Option Spot → Option Place
place_with g None = None
place_with g (Some x) = Some (record { group = g; spot = x })

-- where a statement ends at a line, counted from the first group's line, which is 0
abbrev pub place_in : List Group → ℕ → Option Place
place_in [] k = None
place_in (g ∷ gs) k = if nat_lt k (group_lines g) then place_with g (group_spot_at g k) else place_in gs (k - group_lines g)

-- where a statement ends at a line of the plan's text, if one does: the first group stands at line 4
abbrev pub place_at : List Group → ℕ → Option Place
place_at groups line = if nat_lt line 4 then None else place_in groups (line - 4)
