use Rattle.std.proofs.Common.{◌≡◌}
use Rattle.numeric.specs.Apply.{compare}
use Rattle.interpreter.specs.Evaluation.Words.{says_yes, word_at}
use Rattle.interpreter.proofs.EachWord.{WordsBelow}
use Rattle.interpreter.proofs.evaluation.kernels.compare_each_by.Given as goal

abbrev pub invariant-loop-turn : goal.invariant-loop-turn
invariant-loop-turn g l = WordsBelow (λ k w. says_yes w ≡ compare g.C.Comparing.by (word_at g.W.Width.ty l.initial.out k) l.right.value) l.turn l.initial.out l.out
