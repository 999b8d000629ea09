use Rattle.std.proofs.Common.{◌≡◌, length}
use Rattle.std.specs.Prelude.{All}
use Rattle.steps.specs.Seats.{IsIdle}
use Rattle.steps.proofs.crew.idle_workers.Given as goal

abbrev pub invariant-loop : goal.invariant-loop
invariant-loop l = record { seats : length l.workers.items ≡ l.counter; idle : All (IsIdle l.most) l.workers.items }
