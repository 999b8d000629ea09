use Rattle.std.proofs.Common.{ap, ◌∙◌, ℤ, pos}
use Rattle.numeric.specs.declared.op.Op.TheVariants.{Div}
use Rattle.numeric.specs.Apply.{apply, exact}
use Rattle.numeric.specs.Wrap.{wrap}
use Rattle.interpreter.proofs.EachWord.{wrap_twice}
use Rattle.interpreter.proofs.evaluation.quotients.quotient_word.Goals as goal

pub returns : goal.returns
returns g c =
    let ty = g.W.Width.ty in
    let b : ℤ = pos c.args.divisor in
    c.low_word.ensures.wraps ty ∙ ap (wrap ty) c.quotient_number.ensures ∙ wrap_twice ty (exact Div c.word_number.result.value b) ∙ ap (λ (a : ℤ). apply Div ty a b) c.word_number.ensures.is
