use Rattle.std.specs.Int.{int_max, int_min}
use Rattle.interpreter.specs.Evaluation.Lanes.{number_at}
use Rattle.interpreter.proofs.Each.{EachBelow}
use Rattle.interpreter.proofs.evaluation.kernels.clamp_between.Given as goal

abbrev pub invariant-loop-turn : goal.invariant-loop-turn
invariant-loop-turn l = EachBelow (λ k. int_max (int_min (number_at l.initial.out k) (l.high.value)) (l.low.value)) l.turn l.initial.out l.out
