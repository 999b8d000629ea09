-- What a run needs: memory for its buffers, and room for the symbols that it binds, for points and for the indices of calls.
use Rattle.std.specs.Prelude.{ℕ, ◌+◌, ◌*◌, ◌≤◌, ◌<◌, List, [], ◌∷◌, ◌++◌, length, map, Option, Some, None, ⊤}
use Rattle.lin.specs.declared.span.Span1.{Span1}
use Rattle.plan.specs.declared.stmt.Places.{Places}
use Rattle.plan.specs.declared.stmt.Places.TheVariants.{From, Folded}
use Rattle.plan.specs.Plan.{Index, At, Found, Coordinate, Statement, Seq, For, Let, First, Guard, Alloc, Fetch, Store, Publish, Statements, Empty, Then}
use Rattle.plan.specs.Certificate.Certificate.{Certificate}
use Rattle.plan.specs.Certificate.Cells.{own_region}
use Rattle.interpreter.specs.Evaluation.Indices.{indices_in}
use Rattle.interpreter.specs.Buffers.Blocks.{HasMemoryFor}
use Rattle.interpreter.specs.LineCodes.{IsCoded}
use Rattle.interpreter.specs.declared.buffers.limit.Limit.{Limit}
use Rattle.interpreter.specs.declared.line_codes.LineCode.{LineCode}

-- ---- symbols

-- how many symbols a line binds for the lines after it
abbrev pub name_count : Statement → ℕ
name_count (Let i pick forms) = 1
name_count a = 0

-- a line that has no statements in it
abbrev pub IsLine : Statement → Type 0
IsLine (Seq all) = ⊥
IsLine (For i x kind body) = ⊥
IsLine (First i a b) = ⊥
IsLine (Guard low high body) = ⊥
IsLine a = ⊤

-- how many lines of a statement bind a symbol: at no time more are bound
abbrev mutual
  pub symbol_count : Statement → ℕ
  symbol_count (Seq all) = block_symbol_count all
  symbol_count (For i x kind body) = symbol_count body + 1
  symbol_count (Let i pick forms) = 1
  symbol_count (First i a b) = symbol_count a + symbol_count b
  symbol_count (Guard low high body) = symbol_count body
  symbol_count (Alloc b f places) = 0
  symbol_count (Fetch b g region) = 0
  symbol_count (Store b k at e) = 0
  symbol_count (Publish c) = 0

  pub block_symbol_count : Statements → ℕ
  block_symbol_count Empty = 0
  block_symbol_count (Then a rest) = symbol_count a + block_symbol_count rest

-- ---- buffers

abbrev pub count_in : Places → ℕ
count_in (From l n) = n
count_in (Folded n) = n

-- how many places there are in all
abbrev pub places_in : List Places → ℕ
places_in [] = 1
places_in (p ∷ ps) = places_in ps * count_in p

-- the buffers that a statement allocates, with their places, in the order of its lines
abbrev mutual
  pub allotments : Statement → List Limit
  allotments (Seq all) = block_allotments all
  allotments (For i x kind body) = allotments body
  allotments (Let i pick forms) = []
  allotments (First i a b) = allotments a ++ allotments b
  allotments (Guard low high body) = allotments body
  allotments (Alloc b f places) = record { buffer = b; places = places_in places } ∷ []
  allotments (Fetch b g region) = []
  allotments (Store b k at e) = []
  allotments (Publish c) = []

  pub block_allotments : Statements → List Limit
  block_allotments Empty = []
  block_allotments (Then a rest) = allotments a ++ block_allotments rest

-- ---- points

-- how many coordinates the points have at which a statement fetches or stores, all counted
abbrev mutual
  pub coordinate_count : Statement → ℕ
  coordinate_count (Seq all) = block_coordinate_count all
  coordinate_count (For i x kind body) = coordinate_count body
  coordinate_count (Let i pick forms) = 0
  coordinate_count (First i a b) = coordinate_count a + coordinate_count b
  coordinate_count (Guard low high body) = coordinate_count body
  coordinate_count (Alloc b f places) = 0
  coordinate_count (Fetch b g region) = length region
  coordinate_count (Store b k at e) = length at
  coordinate_count (Publish c) = 0

  pub block_coordinate_count : Statements → ℕ
  block_coordinate_count Empty = 0
  block_coordinate_count (Then a rest) = coordinate_count a + block_coordinate_count rest

-- how many coordinates a region has that may be there
abbrev pub region_count : Option (List Span1) → ℕ
region_count None = 0
region_count (Some r) = length r

-- how many coordinates the cells have that the pieces of the group of this number own
abbrev pub own_count : Certificate → ℕ → ℕ
own_count c number = region_count (own_region c.own number)

-- ---- calls

-- how many indices the calls have that find a coordinate, and those that find some
abbrev pub found_indices : Index → ℕ
found_indices (At l) = 0
found_indices (Found e) = indices_in e

abbrev pub coordinate_indices : List Coordinate → ℕ
coordinate_indices [] = 0
coordinate_indices (c ∷ cs) = found_indices c.index + coordinate_indices cs

-- how many indices the calls of a statement have, all counted
abbrev mutual
  pub call_indices : Statement → ℕ
  call_indices (Seq all) = block_call_indices all
  call_indices (For i x kind body) = call_indices body
  call_indices (Let i pick forms) = 0
  call_indices (First i a b) = call_indices a + call_indices b
  call_indices (Guard low high body) = call_indices body
  call_indices (Alloc b f places) = 0
  call_indices (Fetch b g region) = 0
  call_indices (Store b k at e) = coordinate_indices at + indices_in e
  call_indices (Publish c) = 0

  pub block_call_indices : Statements → ℕ
  block_call_indices Empty = 0
  block_call_indices (Then a rest) = call_indices a + block_call_indices rest

-- ---- buffers of few coordinates

-- no buffer has more than four coordinates
abbrev mutual
  pub StatementIsShort : Statement → Type 0
  StatementIsShort (Seq all) = BlockIsShort all
  StatementIsShort (For i x kind body) = StatementIsShort body
  StatementIsShort (Let i pick forms) = Unit {0}
  StatementIsShort (First i a b) = StatementIsShort a × StatementIsShort b
  StatementIsShort (Guard low high body) = StatementIsShort body
  StatementIsShort (Alloc b f places) = length places ≤ 4
  StatementIsShort (Fetch b g region) = Unit {0}
  StatementIsShort (Store b k at e) = Unit {0}
  StatementIsShort (Publish c) = Unit {0}

  pub BlockIsShort : Statements → Type 0
  BlockIsShort Empty = Unit {0}
  BlockIsShort (Then a rest) = StatementIsShort a × BlockIsShort rest

-- ---- all of it

-- the memory of a run: the limits of its buffers, and how many numbers its lists have room for
pub record Space : Type 0 where
  pub limits : List Limit
  pub numbers : ℕ
  pub point : ℕ
  pub stack : ℕ

-- what is kept of a group: how many coordinates the cells have that its pieces own, and the codes of its lines
pub record Kept : Type 0 where
  pub count : ℕ
  pub codes : List LineCode

-- A statement of a group whose pieces own cells of so many coordinates fits into this memory, where so many symbols can be bound,
-- and so many are bound before it: each buffer that it allocates has the memory, each symbol that it binds has room, and so have
-- its points and the indices of its calls. The code of each of its lines, if there is one, is that of the line.
module _ (own : Kept) (space : Space) (room : ℕ) where
  abbrev mutual
    pub StatementFits : Statement → ℕ → Type 0
    StatementFits (Seq all) n = BlockFits all n
    StatementFits (For i x kind body) n = (n < room) × StatementFits body (n + 1)
    StatementFits (Let i pick forms) n = Unit {0}
    StatementFits (First i a b) n = StatementFits a n × StatementFits b n
    StatementFits (Guard low high body) n = StatementFits body n
    StatementFits (Alloc b f places) n = (length places ≤ 4) × HasMemoryFor space.limits b (places_in places)
    StatementFits (Fetch b g region) n = length region ≤ space.point
    StatementFits (Store b k at e) n = (length at ≤ space.numbers) × (length at ≤ space.point) × (coordinate_indices at + indices_in e ≤ space.stack)
        × IsCoded own.codes b k (map (λ c. c.variable) at) e
    StatementFits (Publish c) n = own.count ≤ space.point

    pub BlockFits : Statements → ℕ → Type 0
    BlockFits Empty n = Unit {0}
    BlockFits (Then a rest) n = StatementFits a n × (n + name_count a ≤ room) × BlockFits rest (n + name_count a)
