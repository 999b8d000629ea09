use Rattle.std.proofs.Common.{◌≡◌, take}
use Rattle.std.specs.Prelude.{sum}
use Rattle.report.specs.Costs.{capped}
use Rattle.report.proofs.weighing.total_of.Given as goal

abbrev pub invariant-loop-weight : goal.invariant-loop-weight
invariant-loop-weight l = l.total ≡ capped (sum (take l.weight-index l.weights))
