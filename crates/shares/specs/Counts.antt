-- With which fetch line too many cells are read, and with which need line too many pieces are named.
use Rattle.std.specs.Prelude.{◌≡◌, ℕ, ◌+◌, ◌<◌, ◌≤◌, ◌^◌, ◌⊎◌, List, length, take, Some, slice_get, All}
use Rattle.plan.specs.Plan.{Group, Plan}
use Rattle.plan.specs.Lines.{certificate_line}
use Rattle.plan.specs.declared.certificate.cert.Need.{Need}
use Rattle.plan.specs.Certificate.Certificate.{Certificate}
use Rattle.plan.specs.Certificate.Cells.{pieces}
use Rattle.plan.specs.Certificate.Lines.{need_line}
use Rattle.soundness.specs.Outline.Flaws.{line_told}
use Rattle.shares.specs.Has.{needed_before}
use Rattle.shares.specs.Shared.{LineIsShared}
use Rattle.shares.specs.FetchLines.{FetchIsFar, FetchLine, LineIsNear, plan_fetch_lines, fetched_by_lines}

-- the lines of groups fetch in the open
abbrev pub FetchInTheOpen : Plan → Type 0
FetchInTheOpen p = (n : ℕ) (g : Group) → slice_get p.groups n ≡ Some g → LineIsShared p g.body

-- of a plan whose lines fetch in the open: with this fetch line more than 2^26 cells are fetched, and with those before it not, of
-- which each can be read: the lines `let` before it come to near numbers
pub record PassesFetched (p : Plan) (c : Certificate) (x : FetchLine) : Type 0 where
  pub bodies : FetchInTheOpen p
  pub place : ℕ
  pub stands : slice_get (plan_fetch_lines p) place ≡ Some x
  pub near : All (LineIsNear (pieces p)) (take place (plan_fetch_lines p))
  pub before : fetched_by_lines (pieces p) (take place (plan_fetch_lines p)) ≤ 2 ^ 26
  pub passed : 2 ^ 26 < fetched_by_lines (pieces p) (take (place + 1) (plan_fetch_lines p))

-- the same certificate with these need lines in place of its own, and with the first of its own alone, so many
abbrev pub with_lines : Certificate → List Need → Certificate
with_lines c ns = record c { needs = ns }

abbrev pub with_needs : Certificate → ℕ → Certificate
with_needs c count = with_lines c (take count c.needs)

-- with the need line of this place more than 2^24 pieces are needed, and with those before it not
pub record PassesNeeded (p : Plan) (c : Certificate) (place : ℕ) : Type 0 where
  pub before : needed_before p (with_needs c place) (length (pieces p)) ≤ 2 ^ 24
  pub passed : 2 ^ 24 < needed_before p (with_needs c (place + 1)) (length (pieces p))

-- a limit is passed with the line that is told
abbrev pub FetchPasses : Plan → Certificate → ℕ → Type 0
FetchPasses p c line = (x : FetchLine) × PassesFetched p c x × (line ≡ line_told x.line)

-- the fetch line that is told is the first at which something is wrong: a line `let` before it comes to no near number in some piece,
-- or with it too many cells are fetched
abbrev pub FetchIsRefused : Plan → Certificate → ℕ → Type 0
FetchIsRefused p c line = FetchIsFar p line ⊎ FetchPasses p c line

abbrev pub NeedPasses : Plan → Certificate → ℕ → Type 0
NeedPasses p c line = (place : ℕ) × PassesNeeded p c place × (line ≡ line_told (need_line c (certificate_line p) place))
