use Rattle.interpreter.specs.Evaluation.Words.{word_at}
use Rattle.interpreter.proofs.Each.{EachBelow}
use Rattle.interpreter.proofs.evaluation.small_kernels.widen_each_small.Given as goal

abbrev pub invariant-loop-turn : goal.invariant-loop-turn
invariant-loop-turn g l = EachBelow (λ k. word_at g.W.Width.ty l.words k) l.turn l.initial.out l.out
