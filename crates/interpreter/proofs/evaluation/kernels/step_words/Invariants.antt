use Rattle.std.proofs.Common.{◌≡◌, pos, ◌+ℤ◌, ◌*ℤ◌}
use Rattle.numeric.specs.Wrap.{wrap}
use Rattle.interpreter.proofs.EachWord.{WordsBelow}
use Rattle.interpreter.proofs.evaluation.kernels.step_words.Given as goal

abbrev pub invariant-loop-turn : goal.invariant-loop-turn
invariant-loop-turn l = WordsBelow (λ k w. wrap l.ty (pos w) ≡ l.first.value +ℤ l.step.value *ℤ pos k) l.turn l.initial.out l.out
