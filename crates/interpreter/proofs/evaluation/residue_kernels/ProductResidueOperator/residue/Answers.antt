use Rattle.std.proofs.Common.{w64, ap, ◌∙◌}
use Rattle.std.proofs.lemmas.Int.{to_z-of_z}
use Rattle.numeric.specs.Wrap.{wrap}
use Rattle.interpreter.proofs.Congruent.{product_alike}
use Rattle.interpreter.proofs.evaluation.residue_kernels.ProductResidueOperator.residue.Goals as goal

pub returns : goal.returns
returns c = λ t x y e f.
    c.result_word.ensures t
    ∙ product_alike t _ _ x y (ap (wrap t) (to_z-of_z w64 c.args.left c.ranges.left) ∙ e) (ap (wrap t) (to_z-of_z w64 c.args.right c.ranges.right) ∙ f)
