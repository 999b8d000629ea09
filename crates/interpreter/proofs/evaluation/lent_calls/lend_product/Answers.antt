use Rattle.std.proofs.Common.{◌≡◌, Some, pos, sym, ap, ◌∙◌, arith, rules}
use Rattle.numeric.specs.declared.op.Op.{Op}
use Rattle.numeric.specs.declared.op.Op.TheVariants.{Mul}
use Rattle.numeric.specs.declared.ty.Ty.{Ty}
use Rattle.numeric.specs.Apply.{apply}
use Rattle.numeric.specs.Wrap.{wrap}
use Rattle.plan.specs.Semantics.Found.{found}
use Rattle.tree.specs.declared.expr.Expr.{Expr}
use Rattle.tree.specs.Meaning.{typed}
use Rattle.tree.specs.Term.{term_of, Binary}
use Rattle.interpreter.specs.Evaluation.Lending.{lent_bits}
use Rattle.interpreter.proofs.FoundRuns.{found_binary}
use Rattle.interpreter.proofs.evaluation.lent_calls.lend_product.Goals as goal

pub returns-clause-value : goal.returns-clause-value
returns-clause-value g c = λ m ok k lt.
    let vs = g.R.RunReader.variables c.args.reader.now k in
    let look = g.R.RunReader.look c.args.reader.now m in
    let x = c.in_ok-operand.operand in
    let f = c.in_ok-factor.factor in
    let z = wrap x.ty (pos (lent_bits x k)) in
    let product : c.in-Binary.op ≡ Mul = search rules in
    let same : f.ty ≡ x.ty = search rules in
    let left : c.deref-2.result.now ≡ c.in-Binary.left.value = search rules in
    let right : c.deref-3.result.now ≡ c.in-Binary.right.value = search rules in
    ap (λ (e : Expr). found vs look (term_of e)) c.in-Binary.is
    ∙ (λ i. found vs look (Binary (product i) (term_of (sym left i)) (term_of (sym right i))))
    ∙ found_binary vs look Mul (term_of c.deref-2.result.now) (term_of c.deref-3.result.now) f (typed x.ty z) (c.in_ok-factor.ensures vs look) (c.in_ok-operand.ensures.value m ok k lt)
    ∙ (λ i. Some (typed (same i) (apply Mul (same i) (sym c.number_of.ensures i) z)))
