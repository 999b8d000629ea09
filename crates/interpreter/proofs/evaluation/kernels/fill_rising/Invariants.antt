use Rattle.std.proofs.Common.{pos, ◌+ℤ◌}
use Rattle.interpreter.proofs.Each.{EachBelow}
use Rattle.interpreter.proofs.evaluation.kernels.fill_rising.Given as goal

abbrev pub invariant-loop-turn : goal.invariant-loop-turn
invariant-loop-turn l = EachBelow (λ k. l.first.value +ℤ pos k) l.turn l.initial.out l.out
