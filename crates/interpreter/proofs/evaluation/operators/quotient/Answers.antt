use Rattle.std.proofs.Common.{rules, w64, SFits, ◌≡◌, negsuc, ap, arith, sym, ◌∙◌}
use Rattle.std.specs.Int.{int_wrap, int_wrapping_neg}
use Rattle.std.proofs.lemmas.Int.{ints, to_z-of_z, wrapping_neg_is}
use Rattle.numeric.specs.Apply.{quotient as quotient_of}
use Rattle.interpreter.proofs.Wrapping.{quotient_by_minus_one}
use Rattle.interpreter.proofs.evaluation.operators.quotient.Goals as goal

pub returns-in-minus1 : goal.returns-in-minus1
returns-in-minus1 c =
    let f : SFits w64 c.wrapping_neg.result = search rules in
    let a = c.args.left in
    let e : c.args.right ≡ negsuc 0 = omega (arith, ints) in
    to_z-of_z w64 c.wrapping_neg.result f ∙ c.wrapping_neg.ensures
    ∙ ap (int_wrapping_neg w64) (to_z-of_z w64 a c.ranges.left)
    ∙ wrapping_neg_is w64 a c.ranges.left ∙ ap (int_wrap w64) (sym (quotient_by_minus_one a)) ∙ ap (λ b. int_wrap w64 (quotient_of a b)) (sym e)
