use Rattle.std.proofs.Common.{◌≡◌, ◌<◌, ℕ}
use Rattle.std.specs.Bool.{OnTrue}
use Rattle.interpreter.specs.Evaluation.Lanes.{number_at}
use Rattle.interpreter.proofs.placing.is_same_register.Given as goal

abbrev pub invariant-loop-turn : goal.invariant-loop-turn
invariant-loop-turn l = OnTrue l.all ((k : ℕ) → k < l.turn → number_at l.left k ≡ number_at l.right k)
