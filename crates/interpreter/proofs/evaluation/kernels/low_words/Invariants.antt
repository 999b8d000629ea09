use Rattle.std.proofs.Common.{◌≡◌, pos}
use Rattle.numeric.specs.declared.ty.Ty.{Ty}
use Rattle.numeric.specs.Wrap.{wrap}
use Rattle.interpreter.specs.Evaluation.Lanes.{number_at}
use Rattle.interpreter.proofs.EachWord.{WordsBelow}
use Rattle.interpreter.proofs.evaluation.kernels.low_words.Given as goal

abbrev pub invariant-loop-turn : goal.invariant-loop-turn
invariant-loop-turn l = WordsBelow (λ k w. (t : Ty) → wrap t (pos w) ≡ wrap t (number_at l.numbers k)) l.turn l.initial.out l.out
