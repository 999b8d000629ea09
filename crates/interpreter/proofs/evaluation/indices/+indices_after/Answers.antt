use Rattle.std.proofs.Common.{◌≡◌, ℕ, ◌+◌, List, subst, sym, ap, ◌∙◌, arith}
use Rattle.std.specs.Prelude.{IfSome}
use Rattle.tree.specs.Term.{term_of, list_terms, indices}
use Rattle.tree.specs.declared.expr.Expr.{Expr}
use Rattle.interpreter.specs.Evaluation.Indices.{indices_in, indices_in_all}
use Rattle.interpreter.proofs.Indices.{left_all, left_more, left_none, room-call}
use Rattle.interpreter.proofs.evaluation.indices.+indices_after.Goals as goal

pub indices_after-returns-in-Call : goal.indices_after-returns-in-Call
indices_after-returns-in-Call t c =
    let e : indices_in (term_of c.args.expr.now) ≡ indices_in_all (indices (list_terms c.deref.result.now)) =
    ap (λ (x : Expr). indices_in (term_of x)) c.in-Call.is ∙ room-call c.in-Call.name c.in-Call.at c.in-Call.span ∙ ap (λ (l : List Expr). indices_in_all (indices (list_terms l))) (sym c.deref.ensures.value) in
    subst (λ (m : ℕ). IfSome c.indices_after_all.result (λ n. n ≡ c.args.before + m)) (sym e) c.indices_after_all.ensures

pub indices_after_all-loop-expr-init : goal.indices_after_all-loop-expr-init
indices_after_all-loop-expr-init t c = ap (λ n. c.args.before + n) (left_all c.args.all.now)

pub indices_after_all-loop-expr-preserved : goal.indices_after_all-loop-expr-preserved
indices_after_all-loop-expr-preserved t c =
    let more = left_more c.args.all.now c.loop-expr.expr-index c.expr-item.result c.loop-expr-test.true c.expr-item.is in
    omega (arith, more, c.loop-expr.invariant)

pub indices_after_all-returns : goal.indices_after_all-returns
indices_after_all-returns t c =
    let none = left_none c.args.all.now c.loop-expr.expr-index (omega arith) in
    omega (arith, none, c.loop-expr.invariant)
