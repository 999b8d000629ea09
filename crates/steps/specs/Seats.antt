-- What the workers in their seats stand for, and what they know.
use Rattle.std.specs.Prelude.{◌≡◌, ℕ, ◌<◌, ◌≤◌, ℤ, Some, List, All, length, map, take, vec_capacity}
use Rattle.orders.specs.Work.{Work}
use Rattle.orders.specs.Crew.{Crew as MachineCrew, Table, Worker as MachineWorker, Idle, Done, Asking, Looking, Putting, Faulted, cell_at, go}
use Rattle.orders.specs.Seen.{Snapshot, crew_of}
use Rattle.steps.specs.declared.worker.Place.{Place}
use Rattle.steps.specs.declared.worker.Place.TheVariants as code
use Rattle.steps.specs.declared.worker.Worker.{Worker}
use Rattle.steps.specs.declared.crew.Crew.{Crew}

-- what a worker is at that holds these numbers
abbrev pub worker_at : Place → List ℤ → MachineWorker
worker_at code.Idle numbers = Idle
worker_at code.Done numbers = Done
worker_at (code.Asking piece asked) numbers = Asking piece asked
worker_at (code.Looking piece) numbers = Looking piece numbers
worker_at (code.Putting piece put) numbers = Putting piece numbers put
worker_at code.Faulted numbers = Faulted

abbrev pub machine_worker : Worker → MachineWorker
machine_worker worker = worker_at worker.place worker.numbers.items

-- the table and the workers of the first seats
abbrev pub snapshot_of : Crew → Snapshot
snapshot_of crew = record { table = crew.table; workers = map machine_worker crew.workers.items }

abbrev pub shown : Crew → MachineCrew
shown crew = crew_of (snapshot_of crew)

-- some order of steps leads here
abbrev pub IsReached : Work → MachineCrew → Type 0
IsReached work crew = (order : List ℕ) × (crew ≡ go work order)

-- each cell that is set holds its target
abbrev pub HoldsTargets : (ℕ → ℤ) → Table → Type 0
HoldsTargets target table = (cell : ℕ) (value : ℤ) → cell_at table cell ≡ Some value → value ≡ target cell

-- these are the targets of the first cells that the piece fetches
abbrev pub AreTargets : Work → (ℕ → ℤ) → ℕ → List ℤ → Type 0
AreTargets work target piece looked = looked ≡ map target (take (length looked) (work.fetched piece))

-- a worker that looks has seen targets
abbrev pub HasSeenTargets : Work → (ℕ → ℤ) → MachineWorker → Type 0
HasSeenTargets work target worker = (piece : ℕ) (looked : List ℤ) → worker ≡ Looking piece looked → AreTargets work target piece looked

-- no piece fetches or owns more cells
abbrev pub IsMost : Work → ℕ → Type 0
IsMost work most = (piece : ℕ) → piece < work.pieces → (length (work.fetched piece) ≤ most) × (length (work.own piece) ≤ most)

-- each worker has room for the cells that any piece fetches or owns
abbrev pub HaveRoom : Work → List Worker → Type 0
HaveRoom work workers = All (λ worker. IsMost work (vec_capacity worker.numbers)) workers

-- the worker has no piece, and room for so many numbers
abbrev pub IsIdle : ℕ → Worker → Type 0
IsIdle most worker = (machine_worker worker ≡ Idle) × (most ≤ vec_capacity worker.numbers)
