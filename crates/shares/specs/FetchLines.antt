-- The fetch lines of a plan, how many cells they read, and that the lines `let` before them come to near numbers.
use Rattle.std.specs.Prelude.{◌≡◌, ℕ, ◌+◌, ◌<◌, ◌≤◌, ◌^◌, ◌==◌, if◌then◌else◌, List, [], ◌∷◌, ◌++◌, length, sum_by, take, Some, slice_get, All}
use Rattle.lin.specs.declared.span.Span1.{Span1}
use Rattle.plan.specs.Plan.{Statement, Seq, For, Let, First, Guard, Alloc, Fetch, Store, Publish, Statements, Empty, Then, Group, Plan}
use Rattle.plan.specs.Lines.{lines, body_line}
use Rattle.plan.specs.Symbols.{points}
use Rattle.plan.specs.Certificate.Cells.{Piece, grid_symbols, pieces}
use Rattle.soundness.specs.Outline.Flaws.{line_told}
use Rattle.shares.specs.Boxes.{IsLimited}
use Rattle.shares.specs.Lets.{Naming, naming, named, AreNear, NamingsAreLimited}

-- a line that fetches: its number, that of the group whose pieces fetch, the lines `let` before it, the group that it fetches
-- from, and the region
pub record FetchLine : Type 0 where
  pub line : ℕ
  pub group : ℕ
  pub lets : List Naming
  pub fetched : ℕ
  pub region : List Span1

-- the fetch lines of a statement of a group, which stands behind these lines `let` and begins at a line, but for those that a loop,
-- choice or guard stands around
abbrev mutual
  pub fetch_lines : ℕ → List Naming → Statement → ℕ → List FetchLine
  fetch_lines n ls (Seq all) line = block_fetch_lines n ls all line
  fetch_lines n ls (For i x kind body) line = []
  fetch_lines n ls (Let i pick forms) line = []
  fetch_lines n ls (First i a b) line = []
  fetch_lines n ls (Guard low high body) line = []
  fetch_lines n ls (Alloc b f places) line = []
  fetch_lines n ls (Fetch b g region) line = record { line = line; group = n; lets = ls; fetched = g; region = region } ∷ []
  fetch_lines n ls (Store b k at e) line = []
  fetch_lines n ls (Publish c) line = []

  pub block_fetch_lines : ℕ → List Naming → Statements → ℕ → List FetchLine
  block_fetch_lines n ls Empty line = []
  block_fetch_lines n ls (Then a rest) line = fetch_lines n ls a line ++ block_fetch_lines n (ls ++ naming a) rest (line + lines a)

-- those of groups, of which the first has the number n
abbrev pub fetch_lines_from : Plan → ℕ → List Group → List FetchLine
fetch_lines_from p n [] = []
fetch_lines_from p n (g ∷ gs) = fetch_lines n [] g.body (body_line p n) ++ fetch_lines_from p (n + 1) gs

-- the fetch lines of a plan, in the order of its text
abbrev pub plan_fetch_lines : Plan → List FetchLine
plan_fetch_lines p = fetch_lines_from p 0 p.groups

-- the forms of a line's region, and of the lines `let` before it, are within the limits
abbrev pub LineIsLimited : FetchLine → Type 0
LineIsLimited x = IsLimited x.region × NamingsAreLimited x.lets

-- how many cells a piece fetches by a line
abbrev pub cells_by : FetchLine → Piece → ℕ
cells_by x j = if x.group == j.group then length (points (named x.lets (grid_symbols j.at)) x.region) else 0

-- in each of these pieces that is of the line's group the lines `let` before the line come to near numbers
abbrev pub LineIsNear : List Piece → FetchLine → Type 0
LineIsNear js x = All (λ j. j.group ≡ x.group → AreNear x.lets (grid_symbols j.at)) js

-- in all pieces of the plan the lines `let` before fetch lines do
abbrev pub LetsAreNear : Plan → Type 0
LetsAreNear p = All (LineIsNear (pieces p)) (plan_fetch_lines p)

-- how many cells all of these pieces fetch by a line, and by some lines
abbrev pub fetched_by : List Piece → FetchLine → ℕ
fetched_by js x = sum_by (cells_by x) js

abbrev pub fetched_by_lines : List Piece → List FetchLine → ℕ
fetched_by_lines js xs = sum_by (fetched_by js) xs

-- ---- the first line at which something is wrong

-- of these lines the one at the place is the first before which a line `let` comes to no near number in some of these pieces
pub record IsFirstFar (js : List Piece) (xs : List FetchLine) (place : ℕ) : Type 0 where
  pub line : FetchLine
  pub stands : slice_get xs place ≡ Some line
  pub near : All (LineIsNear js) (take place xs)
  pub far : ¬ LineIsNear js line

-- with the line at the place these pieces fetch more than 2^26 cells, and with those before it not
pub record IsFirstPast (js : List Piece) (xs : List FetchLine) (place : ℕ) : Type 0 where
  pub within : place < length xs
  pub before : fetched_by_lines js (take place xs) ≤ 2 ^ 26
  pub past : 2 ^ 26 < fetched_by_lines js (take (place + 1) xs)

-- of a plan: before this fetch line a line `let` comes to no near number in some piece; at those before it nothing is wrong, neither
-- that nor more than 2^26 fetched cells
pub record IsFarFetch (p : Plan) (x : FetchLine) : Type 0 where
  pub place : ℕ
  pub stands : slice_get (plan_fetch_lines p) place ≡ Some x
  pub near : All (LineIsNear (pieces p)) (take place (plan_fetch_lines p))
  pub before : fetched_by_lines (pieces p) (take place (plan_fetch_lines p)) ≤ 2 ^ 26
  pub far : ¬ LineIsNear (pieces p) x

-- so it is with the fetch line that is told
abbrev pub FetchIsFar : Plan → ℕ → Type 0
FetchIsFar p line = (x : FetchLine) × IsFarFetch p x × (line ≡ line_told x.line)
