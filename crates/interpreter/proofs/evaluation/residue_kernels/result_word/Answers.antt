use Rattle.std.proofs.Common.{rules, w64, ap, ◌∙◌, SFits}
use Rattle.std.specs.Int.{int_wrap}
use Rattle.std.proofs.lemmas.Int.{to_z-of_z}
use Rattle.numeric.specs.Wrap.{wrap}
use Rattle.numeric.specs.Apply.{exact}
use Rattle.numeric.proofs.Wraps.{wrap-int_wrap}
use Rattle.interpreter.proofs.evaluation.residue_kernels.result_word.Goals as goal

pub returns : goal.returns
returns g c = λ t.
    let op = g.O.Operator.op in
    let a = c.args.left in
    let b = c.args.right in
    let f : SFits w64 c.low_bits.result = search rules in
    let low = to_z-of_z w64 c.low_bits.result f ∙ c.low_bits.ensures ∙ (λ i. int_wrap w64 (exact op (to_z-of_z w64 a c.ranges.left i) (to_z-of_z w64 b c.ranges.right i))) in
    c.low_word.ensures.wraps t ∙ ap (wrap t) low ∙ wrap-int_wrap t (exact op a b)
