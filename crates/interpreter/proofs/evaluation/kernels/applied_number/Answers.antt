use Rattle.std.proofs.Common.{rules, w64, ap, ◌∙◌, SFits}
use Rattle.std.specs.Int.{int_wrap}
use Rattle.std.proofs.lemmas.Int.{to_z-of_z}
use Rattle.numeric.specs.Wrap.{wrap}
use Rattle.numeric.specs.Apply.{exact}
use Rattle.numeric.proofs.Wraps.{wrap-int_wrap}
use Rattle.interpreter.proofs.evaluation.kernels.applied_number.Goals as goal

pub returns : goal.returns
returns g c =
    let op = g.O.Operator.op in
    let ty = g.W.Width.ty in
    let a = c.args.left.value in
    let b = c.args.right.value in
    let e : SFits w64 c.wrapped.result = search rules in
    let f : SFits w64 c.low_bits.result = search rules in
    let h : SFits w64 a = search rules in
    let k : SFits w64 b = search rules in
    let low = to_z-of_z w64 c.low_bits.result f ∙ c.low_bits.ensures ∙ (λ i. int_wrap w64 (exact op (to_z-of_z w64 a h i) (to_z-of_z w64 b k i))) in
    to_z-of_z w64 c.wrapped.result e ∙ c.wrapped.ensures ∙ ap (wrap ty) low ∙ wrap-int_wrap ty (exact op a b)
