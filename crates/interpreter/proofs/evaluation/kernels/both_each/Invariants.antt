use Rattle.std.proofs.Common.{◌≡◌}
use Rattle.std.specs.Prelude.{◌&&◌}
use Rattle.interpreter.specs.Evaluation.Words.{mask_at, says_yes}
use Rattle.interpreter.proofs.EachWord.{WordsBelow}
use Rattle.interpreter.proofs.evaluation.kernels.both_each.Given as goal

abbrev pub invariant-loop-turn : goal.invariant-loop-turn
invariant-loop-turn l = WordsBelow (λ k w. says_yes w ≡ (mask_at l.initial.out k && mask_at l.right k)) l.turn l.initial.out l.out
