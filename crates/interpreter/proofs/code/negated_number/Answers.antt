use Rattle.std.proofs.Common.{rules, w64, neg_ℤ, ap, ◌∙◌, SFits}
use Rattle.std.specs.Int.{int_wrapping_neg}
use Rattle.std.proofs.lemmas.Int.{to_z-of_z, wrapping_neg_is}
use Rattle.numeric.specs.Wrap.{wrap}
use Rattle.numeric.proofs.Wraps.{wrap-int_wrap}
use Rattle.interpreter.proofs.code.negated_number.Goals as goal

pub returns : goal.returns
returns c =
    let t = c.args.ty in
    let z = c.args.number in
    let g : SFits w64 c.wrapping_neg.result = search rules in
    let r : SFits w64 c.wrapped_number.result = search rules in
    let h : SFits w64 z = search rules in
    to_z-of_z w64 c.wrapped_number.result r ∙ c.wrapped_number.ensures
    ∙ ap (wrap t) (to_z-of_z w64 c.wrapping_neg.result g ∙ c.wrapping_neg.ensures ∙ ap (int_wrapping_neg w64) (to_z-of_z w64 z h) ∙ wrapping_neg_is w64 z h)
    ∙ wrap-int_wrap t (neg_ℤ z)
