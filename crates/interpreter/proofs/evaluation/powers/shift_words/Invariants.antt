use Rattle.std.proofs.Common.{◌≡◌, ◌^◌, pos}
use Rattle.numeric.specs.Apply.{apply}
use Rattle.numeric.specs.declared.op.Op.TheVariants.{Div}
use Rattle.numeric.specs.declared.ty.Ty.TheVariants.{U32}
use Rattle.numeric.specs.Wrap.{wrap}
use Rattle.interpreter.specs.Evaluation.Words.{word_at}
use Rattle.interpreter.proofs.EachWord.{WordsBelow}
use Rattle.interpreter.proofs.evaluation.powers.shift_words.Given as goal

abbrev pub invariant-loop-turn : goal.invariant-loop-turn
invariant-loop-turn l = WordsBelow (λ k w. wrap U32 (pos w) ≡ apply Div U32 (word_at U32 l.initial.out k) (pos (2 ^ l.exponent))) l.turn l.initial.out l.out
