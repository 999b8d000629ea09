use Rattle.std.proofs.Common.{◌≡◌, ◌+◌, pos}
use Rattle.numeric.specs.declared.op.Op.TheVariants.{Mul}
use Rattle.numeric.specs.declared.ty.Ty.{Ty}
use Rattle.numeric.specs.Apply.{apply}
use Rattle.numeric.specs.Wrap.{wrap}
use Rattle.interpreter.specs.Evaluation.Lending.{lent_bits}
use Rattle.interpreter.specs.Evaluation.Words.{word_at}
use Rattle.interpreter.proofs.EachWord.{WordsBelow}
use Rattle.interpreter.proofs.evaluation.lent_seconds.apply_turns.Given as goal

abbrev pub invariant-loop-turn : goal.invariant-loop-turn
invariant-loop-turn g l =
    WordsBelow (λ k w. (t : Ty) → wrap t (pos w) ≡ apply g.O.ResidueOperator.op t (word_at t l.initial.out k) (apply Mul t (l.factor.value)
    (apply g.P.ResidueOperator.op t (wrap t (pos (lent_bits l.left (l.start + k)))) (wrap t (pos (lent_bits l.right (l.start + k)))))))
    l.turn l.initial.out l.out
