use Rattle.std.proofs.Common.{rules, w64, neg_ℤ, ap, ◌∙◌, SFits}
use Rattle.std.specs.Int.{int_wrapping_neg}
use Rattle.std.proofs.lemmas.Int.{to_z-of_z, wrapping_neg_is}
use Rattle.numeric.specs.Wrap.{wrap}
use Rattle.numeric.proofs.Wraps.{wrap-int_wrap}
use Rattle.interpreter.proofs.evaluation.kernels.negated_number.Goals as goal

pub returns : goal.returns
returns g c =
    let ty = g.W.Width.ty in
    let a = c.args.number.value in
    let e : SFits w64 c.wrapped.result = search rules in
    let f : SFits w64 c.wrapping_neg.result = search rules in
    let h : SFits w64 a = search rules in
    let low = to_z-of_z w64 c.wrapping_neg.result f ∙ c.wrapping_neg.ensures ∙ ap (int_wrapping_neg w64) (to_z-of_z w64 a h) ∙ wrapping_neg_is w64 a h in
    to_z-of_z w64 c.wrapped.result e ∙ c.wrapped.ensures ∙ ap (wrap ty) low ∙ wrap-int_wrap ty (neg_ℤ a)
