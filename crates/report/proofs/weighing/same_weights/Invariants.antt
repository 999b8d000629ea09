use Rattle.std.proofs.Common.{◌≡◌, replicate}
use Rattle.report.proofs.weighing.same_weights.Given as goal

abbrev pub invariant-loop : goal.invariant-loop
invariant-loop l = l.weights.items ≡ replicate l.counter l.weight
