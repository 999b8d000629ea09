use Rattle.std.proofs.Common.{ap, subst, sym, ◌∙◌, ℤ, pos}
use Rattle.numeric.specs.declared.op.Op.TheVariants.{Div}
use Rattle.numeric.specs.Apply.{apply}
use Rattle.interpreter.specs.Evaluation.Quotients.{IsSmall}
use Rattle.interpreter.proofs.Reciprocals.{divided_short}
use Rattle.interpreter.proofs.evaluation.quotients.short_word.Goals as goal

pub returns : goal.returns
returns g c =
    let ty = g.W.Width.ty in
    let by = c.args.by in
    divided_short ty c.word_number.result.value c.small_number-number.result by.factor by.shift c.args.divisor c.upper_bits.result c.small_number-number.ensures.is c.small_number-number.ensures.below c.requires.reciprocal c.upper_bits.ensures
    ∙ ap (λ (a : ℤ). apply Div ty a (pos c.args.divisor)) c.word_number.ensures.is

pub small_number-number-requires : goal.small_number-number-requires
small_number-number-requires g c = subst IsSmall (sym c.word_number.ensures.is) c.requires.small
