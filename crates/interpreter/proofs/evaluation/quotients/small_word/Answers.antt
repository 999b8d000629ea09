use Rattle.std.proofs.Common.{ap, subst, sym, ◌∙◌, ℤ, pos}
use Rattle.numeric.specs.declared.op.Op.TheVariants.{Div}
use Rattle.numeric.specs.Apply.{apply, exact}
use Rattle.numeric.specs.Wrap.{wrap}
use Rattle.interpreter.specs.Evaluation.Quotients.{IsSmall}
use Rattle.interpreter.proofs.EachWord.{wrap_twice}
use Rattle.interpreter.proofs.evaluation.quotients.small_word.Goals as goal

pub returns : goal.returns
returns g c =
    let ty = g.W.Width.ty in
    let b : ℤ = pos c.args.divisor in
    c.low_word.ensures.wraps ty ∙ ap (wrap ty) c.small_quotient.ensures ∙ wrap_twice ty (exact Div c.word_number.result.value b) ∙ ap (λ (a : ℤ). apply Div ty a b) c.word_number.ensures.is

pub small_quotient-requires-clause-small : goal.small_quotient-requires-clause-small
small_quotient-requires-clause-small g c = subst IsSmall (sym c.word_number.ensures.is) c.requires.small
