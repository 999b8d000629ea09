use Rattle.std.proofs.Common.{ap, ◌∙◌, ℤ}
use Rattle.numeric.specs.Apply.{apply, exact}
use Rattle.numeric.specs.Wrap.{wrap}
use Rattle.interpreter.proofs.EachWord.{wrap_twice}
use Rattle.interpreter.proofs.evaluation.words.applied_to_word.Goals as goal

pub returns : goal.returns
returns g c =
    let op = g.O.Operator.op in
    let ty = g.W.Width.ty in
    let a : ℤ = c.args.left.value in
    c.low_word.ensures.wraps ty ∙ ap (wrap ty) c.applied_number.ensures ∙ wrap_twice ty (exact op a c.word_number.result.value) ∙ ap (λ (b : ℤ). apply op ty a b) c.word_number.ensures.is
