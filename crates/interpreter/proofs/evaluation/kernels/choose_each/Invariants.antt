use Rattle.std.proofs.Common.{◌≡◌}
use Rattle.std.specs.Prelude.{if◌then◌else◌}
use Rattle.interpreter.specs.Evaluation.Words.{bits_at, mask_at}
use Rattle.interpreter.proofs.EachWord.{WordsBelow}
use Rattle.interpreter.proofs.evaluation.kernels.choose_each.Given as goal

abbrev pub invariant-loop-turn : goal.invariant-loop-turn
invariant-loop-turn l = WordsBelow (λ k w. w ≡ (if mask_at l.initial.out k then bits_at l.yes k else bits_at l.no k)) l.turn l.initial.out l.out
