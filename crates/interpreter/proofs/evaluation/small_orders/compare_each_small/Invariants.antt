use Rattle.std.proofs.Common.{◌≡◌}
use Rattle.numeric.specs.Apply.{compare}
use Rattle.interpreter.specs.Evaluation.Words.{says_yes, word_at}
use Rattle.interpreter.proofs.EachWord.{WordsBelow}
use Rattle.interpreter.proofs.evaluation.small_orders.compare_each_small.Given as goal

abbrev pub invariant-loop-turn : goal.invariant-loop-turn
invariant-loop-turn g l = WordsBelow (λ k w. says_yes w ≡ compare g.C.Comparing.by (word_at g.W.SmallWidth.ty l.initial.out k) (word_at g.W.SmallWidth.ty l.right k)) l.turn l.initial.out l.out
