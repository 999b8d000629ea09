use Rattle.std.proofs.Common.{◌≡◌, pos}
use Rattle.std.specs.Int.{int_max, int_min}
use Rattle.numeric.specs.Wrap.{wrap}
use Rattle.interpreter.specs.Evaluation.Words.{word_at}
use Rattle.interpreter.proofs.EachWord.{WordsBelow}
use Rattle.interpreter.proofs.evaluation.small_kernels.clamp_each_small.Given as goal

abbrev pub invariant-loop-turn : goal.invariant-loop-turn
invariant-loop-turn g l = WordsBelow (λ k w. wrap g.W.Width.ty (pos w) ≡ int_max (int_min (word_at g.W.Width.ty l.initial.out k) l.high) l.low) l.turn l.initial.out l.out
