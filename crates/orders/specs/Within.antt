-- Where a worker can be: with a piece of the work, and before the end of what it goes through.
use Rattle.std.specs.Prelude.{ℕ, ◌<◌, length}
use Rattle.orders.specs.Work.{Work}
use Rattle.orders.specs.Crew.{Worker, Idle, Done, Asking, Looking, Putting, Faulted, Crew}

abbrev pub IsWithin : Work → Worker → Type 0
IsWithin work Idle = Unit {0}
IsWithin work Done = Unit {0}
IsWithin work (Asking piece asked) = (piece < work.pieces) × (asked < length (work.needs piece))
IsWithin work (Looking piece looked) = (piece < work.pieces) × (length looked < length (work.fetched piece))
IsWithin work (Putting piece values put) = piece < work.pieces
IsWithin work Faulted = Unit {0}

-- each worker of the crew is
abbrev pub AllWithin : Work → Crew → Type 0
AllWithin work crew = (w : ℕ) → IsWithin work (crew.workers w)
