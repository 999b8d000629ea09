use Rattle.std.proofs.Common.{◌≡◌, ap, ◌∙◌, ℤ, rules, w32, w64, SFits}
use Rattle.std.proofs.lemmas.Int.{to_z-of_z}
use Rattle.numeric.specs.Apply.{apply, exact}
use Rattle.numeric.specs.Wrap.{wrap}
use Rattle.interpreter.proofs.evaluation.small_orders.extreme_word.Goals as goal

pub returns : goal.returns
returns g c =
    let op = g.O.Extreme.op in
    let ty = g.W.SmallWidth.ty in
    let a : ℤ = c.small.result in
    let b : ℤ = c.args.right in
    let v : ℤ = c.from.result in
    let fits : SFits w64 v = search rules in
    let a_fits : SFits w32 a = search rules in
    let b_fits : SFits w32 b = search rules in
    let is : v ≡ exact op a b = search (rules, to_z-of_z) in
    c.low_word.ensures.wraps ty ∙ ap (wrap ty) (to_z-of_z w64 v fits ∙ is)
    ∙ ap (λ (z : ℤ). apply op ty z b) c.small.ensures
