-- What is wrong at fetch lines before a line that is broken.
use Rattle.std.specs.Prelude.{◌≡◌, ℕ, ◌+◌, ◌<◌, ◌≤◌, ◌^◌, ◌⊎◌, List, length, take, Option, Some, None, slice_get, All}
use Rattle.plan.specs.Plan.{Group, Plan}
use Rattle.plan.specs.Certificate.Cells.{Piece, first_piece, pieces}
use Rattle.soundness.specs.Outline.Flaws.{line_told}
use Rattle.shares.specs.FetchLines.{FetchIsFar, FetchLine, IsFirstFar, IsFirstPast, LineIsLimited, LineIsNear, fetched_by_lines, plan_fetch_lines}

-- ---- what is asked

-- the line's forms are within the limits, and the groups up to its own have 2^20 pieces at most
pub record IsRead (p : Plan) (x : FetchLine) : Type 0 where
  pub limits : LineIsLimited x
  pub pieces : first_piece p.groups (x.group + 1) ≤ 2 ^ 20

-- so it is with each fetch line that stands, as it is told, before this line
abbrev pub AreReadBefore : Plan → ℕ → Type 0
AreReadBefore p line = (i : ℕ) (x : FetchLine) → slice_get (plan_fetch_lines p) i ≡ Some x → line_told x.line < line → IsRead p x

-- ---- what is told

-- with this fetch line more than 2^26 cells are fetched, and with those before it not; at those before it nothing else is wrong
pub record IsPastFetch (p : Plan) (x : FetchLine) : Type 0 where
  pub place : ℕ
  pub stands : slice_get (plan_fetch_lines p) place ≡ Some x
  pub near : All (LineIsNear (pieces p)) (take place (plan_fetch_lines p))
  pub before : fetched_by_lines (pieces p) (take place (plan_fetch_lines p)) ≤ 2 ^ 26
  pub passed : 2 ^ 26 < fetched_by_lines (pieces p) (take (place + 1) (plan_fetch_lines p))

-- so it is with the fetch line that is told
abbrev pub FetchIsPast : Plan → ℕ → Type 0
FetchIsPast p line = (x : FetchLine) × IsPastFetch p x × (line ≡ line_told x.line)

-- the fetch line that is told is the first at which something is wrong: a line `let` before it comes to no near number in some piece,
-- or with it too many cells are fetched
abbrev pub FetchIsWrong : Plan → ℕ → Type 0
FetchIsWrong p line = FetchIsFar p line ⊎ FetchIsPast p line

-- at no fetch line before this line is anything wrong
pub record FetchLinesStand (p : Plan) (line : ℕ) : Type 0 where
  pub near : (i : ℕ) (x : FetchLine) → slice_get (plan_fetch_lines p) i ≡ Some x → line_told x.line < line → LineIsNear (pieces p) x
  pub few : (i : ℕ) (x : FetchLine) → slice_get (plan_fetch_lines p) i ≡ Some x → line_told x.line < line →
      fetched_by_lines (pieces p) (take (i + 1) (plan_fetch_lines p)) ≤ 2 ^ 26

-- ---- some fetch lines, in some pieces

-- so many of them stand before a line, and the next does not
pub record StandAhead (xs : List FetchLine) (line count : ℕ) : Type 0 where
  pub some : count ≤ length xs
  pub ahead : All (λ x. x.line < line) (take count xs)
  pub next : (x : FetchLine) → slice_get xs count ≡ Some x → line ≤ x.line

-- they are of the first groups, so many; where the groups up to that of each have few pieces, so many groups have
pub record IsGroupCount (xs : List FetchLine) (count : ℕ) : Type 0 where
  pub within : All (λ x. x.group < count) xs
  pub few : (gs : List Group) → All (λ x. first_piece gs (x.group + 1) ≤ 2 ^ 20) xs → first_piece gs count ≤ 2 ^ 20

-- at none of them is anything wrong
pub record AreRead (js : List Piece) (xs : List FetchLine) : Type 0 where
  pub near : All (LineIsNear js) xs
  pub few : fetched_by_lines js xs ≤ 2 ^ 26

-- a place, or this one where there is none
abbrev pub until : Option ℕ → ℕ → ℕ
until None end = end
until (Some place) end = place

-- the one at the place is the first at which something is wrong
abbrev pub IsFirstWrong : List Piece → List FetchLine → ℕ → Type 0
IsFirstWrong js xs place =
    (IsFirstFar js xs place × (fetched_by_lines js (take place xs) ≤ 2 ^ 26))
    ⊎ (All (LineIsNear js) (take place xs) × IsFirstPast js xs place)
