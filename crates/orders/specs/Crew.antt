-- The crew as a pure machine over one shared table: what each worker is at, and what one step of a worker does.
use Rattle.std.specs.Prelude.{ℕ, ◌+◌, ℤ, Bool, true, false, Option, Some, None, List, [], ◌∷◌, ◌++◌, length, replicate, slice_get, slice_set, slice_index, slice_index_or, if◌then◌else◌, nat_eq, nat_lt}
use Rattle.orders.specs.Work.{Work}

-- What all workers share.
pub record Table : Type 0 where
  -- the value of each cell that is set
  pub cells : List (Option ℤ)
  -- pieces are drawn in order: so many were drawn
  pub drawn : ℕ
  -- which pieces are finished
  pub finished : List Bool

-- What a worker is at.
pub data Worker : Type 0 where
  -- has no piece
  Idle : Worker
  -- found no piece left
  Done : Worker
  -- has a piece, and asks for the one at this place of the needed pieces
  Asking : (piece asked : ℕ) → Worker
  -- has a piece, and has looked at the first of the fetched cells, with these values
  Looking : (piece : ℕ) (looked : List ℤ) → Worker
  -- has a piece and these values for its own cells, and has put so many of them
  Putting : (piece : ℕ) (values : List ℤ) (put : ℕ) → Worker
  -- met a fault, and takes no further step
  Faulted : Worker

pub record Crew : Type 0 where
  pub table : Table
  -- what each worker is at, by its number
  pub workers : ℕ → Worker

-- the value of a cell, if it is set
abbrev pub cell_at : Table → ℕ → Option ℤ
cell_at table cell = slice_index_or table.cells cell None

abbrev pub is_finished : Table → ℕ → Bool
is_finished table piece = slice_index_or table.finished piece false

-- After the private run of a piece its own values are put; a run that has none is a fault.
abbrev pub after_run : ℕ → Option (List ℤ) → Worker
after_run piece None = Faulted
after_run piece (Some values) = Putting piece values 0

-- After these looks the worker looks on; after the last one the private run follows at once.
abbrev pub after_looks : Work → ℕ → List ℤ → Worker
after_looks work piece looked = if nat_eq (length looked) (length (work.fetched piece)) then after_run piece (work.private_run piece looked) else Looking piece looked

-- After so many asks the worker asks on; after the last one it looks.
abbrev pub after_asks : Work → ℕ → ℕ → Worker
after_asks work piece asked = if nat_eq asked (length (work.needs piece)) then after_looks work piece [] else Asking piece asked

-- A look at an unset cell is a fault.
abbrev pub after_look : Work → ℕ → List ℤ → Option ℤ → Worker
after_look work piece looked None = Faulted
after_look work piece looked (Some value) = after_looks work piece (looked ++ value ∷ [])

-- What a step leaves: the table, and what its worker is at.
pub record Move : Type 0 where
  pub table : Table
  pub worker : Worker

-- a step that leaves the table as it is
abbrev pub keeps : Table → Worker → Move
keeps table worker = record { table = table; worker = worker }

-- The next own value is put on its cell, which holds this; a put on a set cell is a fault.
abbrev pub put_on : Table → ℕ → List ℤ → ℕ → ℕ → Option ℤ → Move
put_on table piece values put cell None = record { table = record table { cells = slice_set table.cells cell (slice_get values put) }; worker = Putting piece values (put + 1) }
put_on table piece values put cell (Some value) = keeps table Faulted

-- One step of a worker that is at this.
abbrev pub act : Work → Table → Worker → Move
act work table Idle = if nat_lt table.drawn work.pieces then record { table = record table { drawn = table.drawn + 1 }; worker = after_asks work table.drawn 0 } else keeps table Done
act work table Done = keeps table Done
act work table (Asking piece asked) = keeps table (if is_finished table (slice_index (work.needs piece) asked) then after_asks work piece (asked + 1) else Asking piece asked)
act work table (Looking piece looked) = keeps table (after_look work piece looked (cell_at table (slice_index (work.fetched piece) (length looked))))
act work table (Putting piece values put) = if nat_lt put (length (work.own piece)) then put_on table piece values put (slice_index (work.own piece) put) (cell_at table (slice_index (work.own piece) put)) else record { table = record table { finished = slice_set table.finished piece true }; worker = Idle }
act work table Faulted = keeps table Faulted

-- the crew after worker w made this move
abbrev pub after_move : Crew → ℕ → Move → Crew
after_move crew w move = record { table = move.table; workers = λ v. if nat_eq v w then move.worker else crew.workers v }

abbrev pub step : Work → Crew → ℕ → Crew
step work crew w = after_move crew w (act work crew.table (crew.workers w))

-- nothing is drawn, and all cells are unset
abbrev pub start : Work → Crew
start work = record { table = record { cells = replicate work.cells None; drawn = 0; finished = replicate work.pieces false }; workers = λ w. Idle }

-- the crew after one step of each worker that is named, in this order
abbrev pub go_from : Work → Crew → List ℕ → Crew
go_from work crew [] = crew
go_from work crew (w ∷ order) = go_from work (step work crew w) order

abbrev pub go : Work → List ℕ → Crew
go work order = go_from work (start work) order
