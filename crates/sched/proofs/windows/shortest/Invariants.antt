use Rattle.std.proofs.Common.{◌≡◌, drop}
use Rattle.sched.specs.Taken.{shortest_from, shortest}
use Rattle.sched.proofs.windows.shortest.Given as goal

abbrev pub invariant-loop-place : goal.invariant-loop-place
invariant-loop-place l = shortest_from l.grid l.span.upper l.place (drop l.place l.span.lower) l.best ≡ shortest l.grid l.span
