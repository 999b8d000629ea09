use Rattle.std.proofs.Common.{◌≡◌, pos}
use Rattle.numeric.specs.Apply.{apply}
use Rattle.numeric.specs.Wrap.{wrap}
use Rattle.interpreter.specs.Evaluation.Words.{word_at}
use Rattle.interpreter.proofs.EachWord.{WordsBelow}
use Rattle.interpreter.proofs.evaluation.small_orders.extreme_each_by.Given as goal

abbrev pub invariant-loop-turn : goal.invariant-loop-turn
invariant-loop-turn g l =
    WordsBelow (λ k w. wrap g.W.SmallWidth.ty (pos w) ≡ apply g.O.Extreme.op g.W.SmallWidth.ty (word_at g.W.SmallWidth.ty l.initial.out k) l.right) l.turn l.initial.out l.out
