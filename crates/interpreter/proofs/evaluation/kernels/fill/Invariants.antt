use Rattle.interpreter.proofs.Each.{EachBelow}
use Rattle.interpreter.proofs.evaluation.kernels.fill.Given as goal

abbrev pub invariant-loop-turn : goal.invariant-loop-turn
invariant-loop-turn l = EachBelow (λ k. l.number.value) l.turn l.initial.out l.out
