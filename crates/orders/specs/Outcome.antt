-- What holds after any steps of a crew.
use Rattle.std.specs.Prelude.{◌≡◌, ◌≢◌, ℕ, ◌<◌, ℤ, true, Some, List, take, replicate, Contains}
use Rattle.orders.specs.Work.{Work, OwnIsApart, all_steps}
use Rattle.orders.specs.Crew.{Crew, Faulted, cell_at, is_finished, go}

-- In no step of the order a worker looked at an unset cell, put on a set one, or had a fault in its private run.
abbrev pub IsClean : Work → List ℕ → Type 0
IsClean work order = (steps w : ℕ) → (go work (take steps order)).workers w ≢ Faulted

abbrev pub AllFinished : Work → Crew → Type 0
AllFinished work crew = (piece : ℕ) → piece < work.pieces → is_finished crew.table piece ≡ true

pub record IsRight (work : Work) (target : ℕ → ℤ) (crew : Crew) : Type 0 where
  -- each set cell holds its target
  pub set_right : (cell : ℕ) (value : ℤ) → cell_at crew.table cell ≡ Some value → value ≡ target cell
  -- all own cells of a finished piece are set
  pub finished_set : (piece cell : ℕ) → is_finished crew.table piece ≡ true → Contains (work.own piece) cell → cell_at crew.table cell ≡ Some (target cell)
  -- no cell is in two pieces' own lists, or twice in one
  pub own_apart : OwnIsApart work.pieces work.own
  -- when all pieces are finished each cell is set
  pub all_set : AllFinished work crew → (cell : ℕ) → cell < work.cells → cell_at crew.table cell ≡ Some (target cell)

-- whoever steps when, nothing faults and what is set is right
abbrev pub EveryOrderIsRight : Work → (ℕ → ℤ) → Type 0
EveryOrderIsRight work target = (order : List ℕ) → IsClean work order × IsRight work target (go work order)

-- one worker alone finishes all pieces, in the steps that they take
abbrev pub OneWorkerFinishes : Work → Type 0
OneWorkerFinishes work = (w : ℕ) → AllFinished work (go work (replicate (all_steps work) w))
