use Rattle.std.proofs.Common.{◌≡◌, Some, pos, sym, ap, ◌∙◌, arith, rules}
use Rattle.numeric.specs.Wrap.{wrap}
use Rattle.plan.specs.Semantics.Found.{found}
use Rattle.tree.specs.declared.expr.Expr.{Expr}
use Rattle.tree.specs.declared.value.Value.{Value}
use Rattle.tree.specs.Meaning.{applied, typed}
use Rattle.tree.specs.Term.{term_of, Binary}
use Rattle.interpreter.specs.Evaluation.Lending.{lent_bits, lent_number}
use Rattle.interpreter.proofs.FoundRuns.{found_binary}
use Rattle.interpreter.proofs.evaluation.lent_triples.lent_three.Goals as goal

pub returns : goal.returns
returns g c = λ m ok k lt.
    let vs = g.R.RunReader.variables c.args.reader.now k in
    let look = g.R.RunReader.look c.args.reader.now m in
    let x = c.in_ok-first.first in
    let y = c.in_ok-second.second in
    let z = c.in_ok-third.third in
    let a : Value = typed x.ty (wrap x.ty (pos (lent_bits x k))) in
    let b : Value = typed y.operand.ty (lent_number y.operand.ty y k) in
    let op = c.in-Binary.inner in
    let left : c.deref-2.result.now ≡ c.in-Binary.left.value = search rules in
    let right : c.deref-3.result.now ≡ c.in-Binary.right.value = search rules in
    found_binary vs look c.args.op (term_of c.args.expr.now) (term_of c.args.last.now) (applied op a b) (typed z.ty (wrap z.ty (pos (lent_bits z k))))
    (ap (λ (e : Expr). found vs look (term_of e)) c.in-Binary.is
    ∙ (λ i. found vs look (Binary op (term_of (sym left i)) (term_of (sym right i))))
    ∙ found_binary vs look op (term_of c.deref-2.result.now) (term_of c.deref-3.result.now) a b (c.in_ok-first.ensures.value m ok k (omega arith)) (c.in_ok-second.ensures.value m ok k (omega arith)))
    (c.in_ok-third.ensures.value m ok k (omega arith))
    ∙ ap (λ (v : Value). Some v) (sym (c.in_ok-ty.ensures k lt))
