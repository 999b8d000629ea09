use Rattle.std.proofs.Common.{rules, w64, ap, ◌∙◌, SFits}
use Rattle.std.proofs.lemmas.Int.{to_z-of_z}
use Rattle.numeric.specs.Wrap.{wrap}
use Rattle.interpreter.proofs.Reciprocals.{divided_small}
use Rattle.interpreter.proofs.evaluation.quotients.small_quotient.Goals as goal

pub returns : goal.returns
returns g c =
    let ty = g.W.Width.ty in
    let z = c.args.number.value in
    let n = c.small_number.result in
    let y = c.upper_half-quotient.result in
    let e : SFits w64 c.wrapped.result = search rules in
    let f : SFits w64 y = search rules in
    let same = to_z-of_z w64 y f in
    let is = divided_small ty z y n c.args.reciprocal c.args.divisor c.small_number.ensures.is c.small_number.ensures.below c.requires.reciprocal c.upper_half-quotient.ensures in
    to_z-of_z w64 c.wrapped.result e ∙ c.wrapped.ensures ∙ ap (wrap ty) same ∙ is
