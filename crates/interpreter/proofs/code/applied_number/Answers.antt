use Rattle.std.proofs.Common.{rules, w64, ◌∙◌, SFits}
use Rattle.std.specs.Int.{int_wrap}
use Rattle.std.proofs.lemmas.Int.{to_z-of_z}
use Rattle.numeric.specs.Wrap.{wrap}
use Rattle.numeric.specs.Apply.{exact}
use Rattle.numeric.proofs.Wraps.{wrap-int_wrap}
use Rattle.interpreter.proofs.code.applied_number.Goals as goal

pub returns : goal.returns
returns c =
    let g : SFits w64 c.low_bits.result = search rules in
    let r : SFits w64 c.wrapped_number.result = search rules in
    let h : SFits w64 c.args.left = search rules in
    let k : SFits w64 c.args.right = search rules in
    let low = to_z-of_z w64 c.low_bits.result g ∙ c.low_bits.ensures ∙ (λ i. int_wrap w64 (exact c.args.op (to_z-of_z w64 c.args.left h i) (to_z-of_z w64 c.args.right k i))) in
    to_z-of_z w64 c.wrapped_number.result r ∙ c.wrapped_number.ensures ∙ (λ i. wrap (c.result_type.ensures i) (low i)) ∙ wrap-int_wrap c.args.ty (exact c.args.op c.args.left c.args.right)
