use Rattle.std.proofs.Common.{◌≡◌, ap, ◌∙◌, ℤ, rules, w64, SFits}
use Rattle.std.specs.Int.{int_max, int_min}
use Rattle.std.proofs.lemmas.Int.{to_z-of_z}
use Rattle.numeric.specs.Wrap.{wrap}
use Rattle.numeric.proofs.Wraps.{wrap_of_value}
use Rattle.interpreter.proofs.EachWord.{clamped_is_of}
use Rattle.interpreter.proofs.evaluation.small_kernels.clamped_small_word.Goals as goal

pub returns : goal.returns
returns g c =
    let ty = g.W.Width.ty in
    let a : ℤ = c.word_number.result.value in
    let b : ℤ = c.args.low in
    let d : ℤ = c.args.high in
    let v : ℤ = c.from.result in
    let fits : SFits w64 v = search rules in
    let is : v ≡ int_max (int_min a d) b = search (rules, to_z-of_z) in
    c.low_word.ensures.wraps ty ∙ ap (wrap ty) (to_z-of_z w64 v fits ∙ is)
    ∙ wrap_of_value ty (int_max (int_min a d) b) (clamped_is_of ty a b d c.word_number.ensures.fits c.requires.low c.requires.high)
    ∙ ap (λ (z : ℤ). int_max (int_min z d) b) c.word_number.ensures.is
