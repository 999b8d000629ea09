use Rattle.std.proofs.Common.{◌≡◌}
use Rattle.commands.specs.Workers.{workers_spelled}
use Rattle.commands.proofs.Crews.{spelled_from}
use Rattle.commands.proofs.workers.workers_spelled.Given as goal

abbrev pub invariant-loop-number : goal.invariant-loop-number
invariant-loop-number l = workers_spelled l.text ≡ spelled_from l.text l.number
