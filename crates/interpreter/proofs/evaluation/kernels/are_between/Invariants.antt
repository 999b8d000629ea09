use Rattle.std.proofs.Common.{◌<◌, ℕ}
use Rattle.std.specs.Prelude.{◌≤ℤ◌}
use Rattle.std.specs.Bool.{OnTrue}
use Rattle.interpreter.specs.Evaluation.Lanes.{number_at}
use Rattle.interpreter.proofs.evaluation.kernels.are_between.Given as goal

abbrev pub invariant-loop-turn : goal.invariant-loop-turn
invariant-loop-turn l = OnTrue l.all ((k : ℕ) → k < l.turn → (l.low ≤ℤ number_at l.numbers k) × (number_at l.numbers k ≤ℤ l.high))
