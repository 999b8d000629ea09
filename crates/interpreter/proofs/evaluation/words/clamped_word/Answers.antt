use Rattle.std.proofs.Common.{ap, ◌∙◌, ℤ}
use Rattle.std.specs.Int.{int_max, int_min}
use Rattle.numeric.specs.Wrap.{wrap}
use Rattle.numeric.proofs.Wraps.{wrap_of_value}
use Rattle.interpreter.proofs.EachWord.{clamped_is_of}
use Rattle.interpreter.proofs.evaluation.words.clamped_word.Goals as goal

pub returns : goal.returns
returns g c =
    let ty = g.W.Width.ty in
    let a : ℤ = c.word_number.result.value in
    let b : ℤ = c.args.low.value in
    let d : ℤ = c.args.high.value in
    c.low_word.ensures.wraps ty ∙ ap (wrap ty) c.clamped_number.ensures
    ∙ wrap_of_value ty (int_max (int_min a d) b) (clamped_is_of ty a b d c.word_number.ensures.fits c.requires.low c.requires.high)
    ∙ ap (λ (z : ℤ). int_max (int_min z d) b) c.word_number.ensures.is
