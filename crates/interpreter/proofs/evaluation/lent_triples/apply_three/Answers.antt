use Rattle.std.proofs.Common.{◌≡◌, pos, ap, ◌∙◌, rules}
use Rattle.numeric.specs.Apply.{apply}
use Rattle.numeric.specs.Wrap.{wrap}
use Rattle.tree.specs.Meaning.{typed}
use Rattle.interpreter.specs.Evaluation.Lending.{lent_bits, lent_number}
use Rattle.interpreter.proofs.evaluation.lent_triples.apply_three.Goals as goal

pub returns : goal.returns
returns c = λ k lt.
    let x = c.args.left in
    let y = c.args.right in
    let z = c.args.last in
    let second : x.ty ≡ y.operand.ty = search rules in
    let third : x.ty ≡ z.ty = search rules in
    ap (typed x.ty) (c.in_ok-apply_three_ops.ensures x.ty k lt)
    ∙ (λ i. typed x.ty (apply c.args.second x.ty (apply c.args.first x.ty (wrap x.ty (pos (lent_bits x k))) (lent_number (second i) y k)) (wrap (third i) (pos (lent_bits z k)))))
