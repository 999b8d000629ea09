use Rattle.std.proofs.Common.{◌≡◌, ◌+◌, pos}
use Rattle.numeric.specs.declared.ty.Ty.{Ty}
use Rattle.numeric.specs.Apply.{apply}
use Rattle.numeric.specs.Wrap.{wrap}
use Rattle.interpreter.specs.Evaluation.Lending.{lent_bits, lent_number}
use Rattle.interpreter.proofs.EachWord.{WordsBelow}
use Rattle.interpreter.proofs.evaluation.lent_triples.apply_three_turns.Given as goal

abbrev pub invariant-loop-turn : goal.invariant-loop-turn
invariant-loop-turn g l =
    WordsBelow (λ k w. (t : Ty) → wrap t (pos w) ≡
    apply g.P.ResidueOperator.op t (apply g.O.ResidueOperator.op t (wrap t (pos (lent_bits l.left (l.start + k)))) (lent_number t l.right (l.start + k)))
    (wrap t (pos (lent_bits l.last (l.start + k)))))
    l.turn l.initial.out l.out
