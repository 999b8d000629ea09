use Rattle.std.proofs.Common.{ap, ◌∙◌, ℤ, pos}
use Rattle.numeric.specs.Apply.{apply}
use Rattle.numeric.specs.Wrap.{wrap}
use Rattle.interpreter.proofs.evaluation.small_orders.extreme_opposite.Goals as goal

pub returns : goal.returns
returns g c =
    let ty = g.W.SmallWidth.ty in
    c.extreme_of_words.ensures ∙ ap (λ (z : ℤ). apply g.O.Extreme.op ty (wrap ty (pos c.args.word)) z) (c.opposite_word.ensures ty)
