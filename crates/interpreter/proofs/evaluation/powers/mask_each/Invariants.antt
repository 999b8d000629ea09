use Rattle.std.proofs.Common.{◌≡◌, ◌≤◌, ◌^◌, pos}
use Rattle.numeric.specs.declared.ty.Ty.{Ty}
use Rattle.numeric.specs.declared.op.Op.TheVariants.{Rem}
use Rattle.numeric.specs.Apply.{apply}
use Rattle.numeric.specs.Wrap.{bits, wrap}
use Rattle.interpreter.specs.Evaluation.Words.{word_at}
use Rattle.interpreter.proofs.EachWord.{WordsBelow}
use Rattle.interpreter.proofs.evaluation.powers.mask_each.Given as goal

abbrev pub invariant-loop-turn : goal.invariant-loop-turn
invariant-loop-turn l =
    WordsBelow (λ k w. (t : Ty) → l.exponent ≤ bits t → wrap t (pos w) ≡ apply Rem t (word_at t l.initial.out k) (pos (2 ^ l.exponent))) l.turn l.initial.out l.out
