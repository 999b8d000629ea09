use Rattle.std.proofs.Common.{◌≡◌, ◌^◌, pos}
use Rattle.numeric.specs.Apply.{apply}
use Rattle.numeric.specs.declared.op.Op.TheVariants.{Div}
use Rattle.numeric.specs.Wrap.{wrap}
use Rattle.interpreter.specs.Evaluation.Words.{word_at}
use Rattle.interpreter.proofs.EachWord.{WordsBelow}
use Rattle.interpreter.proofs.evaluation.powers.shift_each.Given as goal

abbrev pub invariant-loop-turn : goal.invariant-loop-turn
invariant-loop-turn g l =
    WordsBelow (λ k w. wrap g.W.SmallWidth.ty (pos w) ≡ apply Div g.W.SmallWidth.ty (word_at g.W.SmallWidth.ty l.initial.out k) (pos (2 ^ l.exponent))) l.turn l.initial.out l.out
