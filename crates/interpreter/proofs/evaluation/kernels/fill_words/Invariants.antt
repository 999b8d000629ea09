use Rattle.std.proofs.Common.{◌≡◌}
use Rattle.interpreter.proofs.EachWord.{WordsBelow}
use Rattle.interpreter.proofs.evaluation.kernels.fill_words.Given as goal

abbrev pub invariant-loop-turn : goal.invariant-loop-turn
invariant-loop-turn l = WordsBelow (λ k w. w ≡ l.word) l.turn l.initial.out l.out
