use Rattle.std.proofs.Common.{◌≡◌, pos, ◌+ℤ◌}
use Rattle.numeric.specs.declared.ty.Ty.{Ty}
use Rattle.numeric.specs.Wrap.{wrap}
use Rattle.interpreter.proofs.EachWord.{WordsBelow}
use Rattle.interpreter.proofs.evaluation.kernels.rise_words.Given as goal

abbrev pub invariant-loop-turn : goal.invariant-loop-turn
invariant-loop-turn l = WordsBelow (λ k w. (t : Ty) → wrap t (pos w) ≡ wrap t (l.first.value +ℤ pos k)) l.turn l.initial.out l.out
