use Rattle.std.proofs.Common.{rules, w64, neg_ℤ, ap, ◌∙◌, SFits}
use Rattle.std.specs.Int.{int_wrapping_neg}
use Rattle.std.proofs.lemmas.Int.{to_z-of_z, wrapping_neg_is}
use Rattle.numeric.specs.Wrap.{wrap}
use Rattle.numeric.proofs.Wraps.{wrap-int_wrap}
use Rattle.tree.specs.Meaning.{typed}
use Rattle.interpreter.proofs.evaluation.operators.negated.Goals as goal

pub returns : goal.returns
returns c =
    let v = c.args.value in
    let g : SFits w64 c.wrapping_neg.result = search rules in
    let h : SFits w64 v.number = search rules in
    c.wrapped.ensures ∙ ap (λ n. typed v.ty (wrap v.ty n)) (to_z-of_z w64 c.wrapping_neg.result g ∙ c.wrapping_neg.ensures ∙ ap (int_wrapping_neg w64) (to_z-of_z w64 v.number h) ∙ wrapping_neg_is w64 v.number h)
    ∙ ap (typed v.ty) (wrap-int_wrap v.ty (neg_ℤ v.number))
