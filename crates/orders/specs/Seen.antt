-- What the code's workers and crews stand for.
use Rattle.std.specs.Prelude.{List, slice_index_or}
use Rattle.orders.specs.Crew.{Table, Crew, Worker as MachineWorker, Idle, Done, Asking, Looking, Putting, Faulted}
use Rattle.orders.specs.declared.worker.Worker.{Worker}
use Rattle.orders.specs.declared.worker.Worker.TheVariants as code

abbrev pub machine_worker : Worker → MachineWorker
machine_worker code.Idle = Idle
machine_worker code.Done = Done
machine_worker (code.Asking piece asked) = Asking piece asked
machine_worker (code.Looking piece looked) = Looking piece looked.items
machine_worker (code.Putting piece values put) = Putting piece values.items put
machine_worker code.Faulted = Faulted

-- A crew of which only the first workers ever stepped: its table, and what each of these is at.
pub record Snapshot : Type 0 where
  pub table : Table
  pub workers : List MachineWorker

-- the crew that a snapshot shows: past the first workers all are idle
abbrev pub crew_of : Snapshot → Crew
crew_of snapshot = record { table = snapshot.table; workers = λ w. slice_index_or snapshot.workers w Idle }
