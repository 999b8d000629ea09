use Rattle.std.proofs.Common.{◌≡◌, sym, ap, ◌∙◌, arith, rules}
use Rattle.plan.specs.Semantics.Found.{found}
use Rattle.tree.specs.declared.expr.Expr.{Expr}
use Rattle.tree.specs.declared.value.Value.{Value}
use Rattle.tree.specs.Term.{term_of, Binary}
use Rattle.interpreter.specs.Evaluation.LentPairs.{operand_value}
use Rattle.interpreter.proofs.FoundRuns.{found_binary}
use Rattle.interpreter.proofs.evaluation.lent_seconds.lent_sum.Goals as goal

pub returns-clause-value : goal.returns-clause-value
returns-clause-value g c = λ m ok k lt.
    let vs = g.R.RunReader.variables c.args.reader.now k in
    let look = g.R.RunReader.look c.args.reader.now m in
    let a : Value = operand_value c.in_ok-first.first k in
    let b : Value = operand_value c.in_ok-second.second k in
    let op = c.in-Binary.op in
    let left : c.deref-2.result.now ≡ c.in-Binary.left.value = search rules in
    let right : c.deref-3.result.now ≡ c.in-Binary.right.value = search rules in
    ap (λ (e : Expr). found vs look (term_of e)) c.in-Binary.is
    ∙ (λ i. found vs look (Binary op (term_of (sym left i)) (term_of (sym right i))))
    ∙ found_binary vs look op (term_of c.deref-2.result.now) (term_of c.deref-3.result.now) a b (c.in_ok-first.ensures.value m ok k (omega arith)) (c.in_ok-second.ensures.value m ok k (omega arith))
