use Rattle.std.proofs.Common.{◌≡◌, pos, ap, ◌∙◌, rules}
use Rattle.numeric.specs.declared.ty.Ty.{Ty}
use Rattle.numeric.specs.Apply.{apply}
use Rattle.numeric.specs.Wrap.{wrap}
use Rattle.tree.specs.Meaning.{typed}
use Rattle.interpreter.specs.Evaluation.Lending.{lent_bits, lent_number}
use Rattle.interpreter.proofs.evaluation.lent_pairs.apply_pair.Goals as goal

pub returns : goal.returns
returns c = λ k lt.
    let x = c.args.left in
    let y = c.args.right in
    let same : x.ty ≡ y.operand.ty = search rules in
    ap (typed x.ty) (c.in_ok-apply_pair_op.ensures x.ty k lt)
    ∙ ap (λ (t : Ty). typed x.ty (apply c.args.op x.ty (wrap x.ty (pos (lent_bits x k))) (lent_number t y k))) same
