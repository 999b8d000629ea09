use Rattle.std.proofs.Common.{◌≡◌, pos, neg_ℤ}
use Rattle.numeric.specs.Wrap.{wrap}
use Rattle.interpreter.specs.Evaluation.Words.{word_at}
use Rattle.interpreter.proofs.EachWord.{WordsBelow}
use Rattle.interpreter.proofs.evaluation.kernels.negate_each.Given as goal

abbrev pub invariant-loop-turn : goal.invariant-loop-turn
invariant-loop-turn g l = WordsBelow (λ k w. wrap g.W.Width.ty (pos w) ≡ wrap g.W.Width.ty (neg_ℤ (word_at g.W.Width.ty l.initial.out k))) l.turn l.initial.out l.out
