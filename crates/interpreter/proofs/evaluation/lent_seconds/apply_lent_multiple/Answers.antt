use Rattle.std.proofs.Common.{◌≡◌, ℕ, pos, ap, ◌∙◌, arith, rules}
use Rattle.numeric.specs.Apply.{apply, exact}
use Rattle.numeric.specs.Wrap.{wrap}
use Rattle.tree.specs.Meaning.{typed}
use Rattle.interpreter.specs.Evaluation.Lanes.{lane_number, type_of}
use Rattle.interpreter.specs.Evaluation.Lending.{lent_bits}
use Rattle.interpreter.specs.Evaluation.Multiples.{multiplied_value}
use Rattle.interpreter.specs.Evaluation.Words.{word_at}
use Rattle.interpreter.proofs.evaluation.lent_seconds.apply_lent_multiple.Goals as goal

pub returns : goal.returns
returns c = λ k lt.
    let ty = c.type_of-ty.result in
    let x = c.args.left in
    let p = c.args.right.pair in
    let f = c.args.right.factor in
    let a : ℕ = lent_bits p.left k in
    let b : ℕ = lent_bits p.right k in
    let mid = c.spread.new.out in
    let left : ty ≡ p.left.ty = search rules in
    let right : ty ≡ p.right.ty = search rules in
    let is : ty ≡ type_of x = c.type_of-ty.ensures in
    let word : word_at ty mid k ≡ lane_number x c.args.out.now k = (λ i. word_at (is i) mid k) ∙ c.in_ok-spread.ensures k (omega arith) in
    let product = c.in_ok-factor.ensures (exact p.op (wrap ty (pos a)) (wrap ty (pos b))) in
    let value = product ∙ (λ i. multiplied_value f (typed (left i) (apply p.op (left i) (wrap (left i) (pos a)) (wrap (right i) (pos b))))) in
    ap (typed ty) (c.in_ok-apply_pair_ops.ensures ty k lt)
    ∙ (λ i. typed (is i) (apply c.args.op (is i) (word i) (value i).number))
