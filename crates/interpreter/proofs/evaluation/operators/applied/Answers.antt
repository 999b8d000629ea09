use Rattle.std.proofs.Common.{rules, w64, ap, ◌∙◌, SFits}
use Rattle.std.specs.Int.{int_wrap}
use Rattle.std.proofs.lemmas.Int.{to_z-of_z}
use Rattle.numeric.specs.Wrap.{wrap}
use Rattle.numeric.specs.Apply.{exact}
use Rattle.numeric.proofs.Wraps.{wrap-int_wrap}
use Rattle.tree.specs.Meaning.{typed}
use Rattle.interpreter.proofs.evaluation.operators.applied.Goals as goal

pub returns : goal.returns
returns c =
    let a = c.args.left in
    let b = c.args.right in
    let g : SFits w64 c.low_bits.result = search rules in
    let h : SFits w64 a.number = search rules in
    let k : SFits w64 b.number = search rules in
    let low = to_z-of_z w64 c.low_bits.result g ∙ c.low_bits.ensures ∙ (λ i. int_wrap w64 (exact c.args.op (to_z-of_z w64 a.number h i) (to_z-of_z w64 b.number k i))) in
    c.wrapped.ensures ∙ (λ i. typed (c.result_type.ensures i) (wrap (c.result_type.ensures i) (low i)))
    ∙ ap (typed a.ty) (wrap-int_wrap a.ty (exact c.args.op a.number b.number))
