use Rattle.std.proofs.Common.{◌≡◌, ap, ◌∙◌, ℤ, ◌^◌, pos, rules, w32, w64, SFits}
use Rattle.std.specs.Int.{int_shr}
use Rattle.std.proofs.lemmas.Int.{to_z-of_z}
use Rattle.numeric.specs.declared.op.Op.TheVariants.{Div}
use Rattle.numeric.specs.Apply.{apply}
use Rattle.numeric.specs.Wrap.{wrap}
use Rattle.interpreter.proofs.Powers.{shifted}
use Rattle.interpreter.proofs.evaluation.powers.shifted_small_word.Goals as goal

pub returns : goal.returns
returns g c =
    let ty = g.W.SmallWidth.ty in
    let e = c.args.exponent in
    let a : ℤ = c.small.result in
    let v : ℤ = c.from.result in
    let fits : SFits w64 v = search rules in
    let a_fits : SFits w32 a = search rules in
    let is : v ≡ int_shr a e = search (rules, to_z-of_z) in
    c.low_word.ensures.wraps ty ∙ ap (wrap ty) (to_z-of_z w64 v fits ∙ is ∙ shifted a e)
    ∙ ap (λ (z : ℤ). apply Div ty z (pos (2 ^ e))) c.small.ensures
