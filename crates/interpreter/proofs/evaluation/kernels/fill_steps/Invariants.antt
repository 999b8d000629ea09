use Rattle.std.specs.Prelude.{pos, ◌+ℤ◌, ◌*ℤ◌}
use Rattle.interpreter.proofs.Each.{EachBelow}
use Rattle.interpreter.proofs.evaluation.kernels.fill_steps.Given as goal

abbrev pub invariant-loop-turn : goal.invariant-loop-turn
invariant-loop-turn l = EachBelow (λ k. l.first +ℤ l.step *ℤ pos k) l.turn l.initial.out l.out
