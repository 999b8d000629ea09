use Rattle.std.proofs.Common.{◌≡◌, pos}
use Rattle.numeric.specs.Apply.{apply}
use Rattle.numeric.specs.Wrap.{wrap}
use Rattle.interpreter.specs.Evaluation.Words.{word_at}
use Rattle.interpreter.proofs.EachWord.{WordsBelow}
use Rattle.interpreter.proofs.evaluation.kernels.apply_each_to.Given as goal

abbrev pub invariant-loop-turn : goal.invariant-loop-turn
invariant-loop-turn g l = WordsBelow (λ k w. wrap g.W.Width.ty (pos w) ≡ apply g.O.Operator.op g.W.Width.ty l.left.value (word_at g.W.Width.ty l.right k)) l.turn l.initial.out l.out
