-- What a crew has to do, and when it can do it in every order.
use Rattle.std.specs.Prelude.{◌≡◌, ℕ, zero, suc, ◌+◌, ◌<◌, ℤ, Option, Some, List, map, length, slice_index, Contains}

-- Pieces of work over shared cells. A piece asks for the earlier pieces that it needs, looks at the cells that it
-- fetches, runs in private, and puts its own cells.
pub record Work : Type 0 where
  -- pieces are numbered from 0 in the order in which they are drawn
  pub pieces : ℕ
  -- cells are numbered from 0
  pub cells : ℕ
  -- the cells that a piece puts, in their order
  pub own : ℕ → List ℕ
  -- the cells that a piece looks at, in their order
  pub fetched : ℕ → List ℕ
  -- the pieces that a piece asks for, in their order
  pub needs : ℕ → List ℕ
  -- what the values that were looked at give for the own cells, or None where the private run has a fault
  pub private_run : ℕ → List ℤ → Option (List ℤ)

-- the steps that one worker takes for a piece: it draws, asks, looks, puts and finishes
abbrev pub steps_of : Work → ℕ → ℕ
steps_of work piece = 2 + length (work.needs piece) + length (work.fetched piece) + length (work.own piece)

-- the steps for the first n pieces
abbrev pub steps_before : Work → ℕ → ℕ
steps_before work zero = 0
steps_before work (suc n) = steps_before work n + steps_of work n

-- the steps for all pieces
abbrev pub all_steps : Work → ℕ
all_steps work = steps_before work work.pieces

-- Own cells are in the table.
abbrev pub OwnIsInTable : ℕ → ℕ → (ℕ → List ℕ) → Type 0
OwnIsInTable pieces cells own = (piece cell : ℕ) → piece < pieces → Contains (own piece) cell → cell < cells

-- A cell stands in one place of one piece's own list.
abbrev pub OwnIsApart : ℕ → (ℕ → List ℕ) → Type 0
OwnIsApart pieces own = (p q a b : ℕ) → p < pieces → q < pieces → a < length (own p) → b < length (own q) → slice_index (own p) a ≡ slice_index (own q) b → (p ≡ q) × (a ≡ b)

-- Each cell is some piece's own.
abbrev pub OwnIsWhole : ℕ → ℕ → (ℕ → List ℕ) → Type 0
OwnIsWhole pieces cells own = (cell : ℕ) → cell < cells → (piece : ℕ) × (piece < pieces) × Contains (own piece) cell

-- Own cells are in the table, and apart.
abbrev pub OwnIsParted : ℕ → ℕ → (ℕ → List ℕ) → Type 0
OwnIsParted pieces cells own = OwnIsInTable pieces cells own × OwnIsApart pieces own

-- A needed piece is an earlier one.
abbrev pub NeedsIsEarlier : ℕ → (ℕ → List ℕ) → Type 0
NeedsIsEarlier pieces needs = (piece needed : ℕ) → piece < pieces → Contains (needs piece) needed → needed < piece

-- A fetched cell is an own cell of a needed piece.
abbrev pub FetchedIsNeeded : ℕ → (ℕ → List ℕ) → (ℕ → List ℕ) → (ℕ → List ℕ) → Type 0
FetchedIsNeeded pieces own fetched needs = (piece cell : ℕ) → piece < pieces → Contains (fetched piece) cell → (needed : ℕ) × Contains (needs piece) needed × Contains (own needed) cell

-- Needed pieces are earlier ones, and own all that is fetched.
abbrev pub NeedsServe : ℕ → (ℕ → List ℕ) → (ℕ → List ℕ) → (ℕ → List ℕ) → Type 0
NeedsServe pieces own fetched needs = NeedsIsEarlier pieces needs × FetchedIsNeeded pieces own fetched needs

-- The pieces part the cells among them, and look only at what they need.
pub record HasSoundLists (pieces cells : ℕ) (own fetched needs : ℕ → List ℕ) : Type 0 where
  pub in_table : OwnIsInTable pieces cells own
  pub apart : OwnIsApart pieces own
  pub whole : OwnIsWhole pieces cells own
  pub earlier : NeedsIsEarlier pieces needs
  pub needed : FetchedIsNeeded pieces own fetched needs

-- Each cell has one right value, its target. A private run on right values gives right values.
abbrev pub RunsRight : Work → (ℕ → ℤ) → Type 0
RunsRight work target = (piece : ℕ) → piece < work.pieces → work.private_run piece (map target (work.fetched piece)) ≡ Some (map target (work.own piece))

pub record IsSound (work : Work) (target : ℕ → ℤ) : Type 0 where
  pub lists : HasSoundLists work.pieces work.cells work.own work.fetched work.needs
  pub runs : RunsRight work target
