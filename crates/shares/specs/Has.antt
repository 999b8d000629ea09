-- The shares of a plan's pieces: the one condition on which they can be told.
use Rattle.std.specs.Prelude.{ℕ, zero, suc, ◌+◌, ◌≤◌, ◌<◌, ◌^◌, List, length, Contains, MatchOption, slice_get}
use Rattle.meaning.specs.Algorithm.{Algorithm}
use Rattle.plan.specs.Plan.{Plan}
use Rattle.plan.specs.Certificate.Certificate.{Certificate}
use Rattle.plan.specs.Certificate.Cells.{pieces}
use Rattle.headline.specs.Work.{work_of}
use Rattle.headline.specs.Theorem.{HasSoundCells}
use Rattle.shares.specs.Layout.{own_list, fetched_list, needs_list, FetchesCells, OwnIsInside}
use Rattle.shares.specs.FetchLines.{LetsAreNear}
use Rattle.shares.specs.Needed.{NeedsAreInside}

-- how many cells the first n pieces fetch, counted once for each time that one is fetched
abbrev pub fetched_before : Plan → ℕ → ℕ
fetched_before p zero = 0
fetched_before p (suc n) = fetched_before p n + length (fetched_list p n)

-- how many pieces the first n pieces need, counted once for each piece that needs one
abbrev pub needed_before : Plan → Certificate → ℕ → ℕ
needed_before p c zero = 0
needed_before p c (suc n) = needed_before p c n + length (needs_list p c n)

-- in all at most 2^26 cells are fetched and 2^24 pieces needed
pub record AreFew (p : Plan) (c : Certificate) : Type 0 where
  pub fetched : fetched_before p (length (pieces p)) ≤ 2 ^ 26
  pub needed : needed_before p c (length (pieces p)) ≤ 2 ^ 24

-- the grid points that a piece needs are pieces
abbrev pub NeedsPieces : Plan → Certificate → ℕ → Type 0
NeedsPieces p c n = MatchOption (slice_get (pieces p) n) (Unit {0}) (λ j. NeedsAreInside p j c.needs)

-- the shares of the pieces of a plan
pub record HasShares (p : Plan) (c : Certificate) : Type 0 where
  -- the lines `let` before fetch lines come to numbers that are near 0
  pub near : LetsAreNear p
  -- own regions lie in their groups' regions
  pub inside : (n : ℕ) → OwnIsInside p c n
  -- fetched points are cells, and needed grid points pieces
  pub cells : (n : ℕ) → FetchesCells p n
  pub pieces : (n : ℕ) → NeedsPieces p c n
  -- the pieces part the cells among them, and look only at what earlier pieces that they need own
  pub lists : (a : Algorithm) (samples : List ℕ) → HasSoundCells (work_of a p c samples)
  -- and this stays within the limits
  pub few : AreFew p c

-- what a piece fetches are cells, what it needs are earlier pieces, and each fetched cell is a needed piece's own
pub record IsServed (p : Plan) (c : Certificate) (n : ℕ) : Type 0 where
  pub cells : FetchesCells p n
  pub pieces : NeedsPieces p c n
  pub earlier : (k : ℕ) → Contains (needs_list p c n) k → k < n
  pub owned : (x : ℕ) → Contains (fetched_list p n) x → (k : ℕ) × Contains (needs_list p c n) k × Contains (own_list p c k) x
