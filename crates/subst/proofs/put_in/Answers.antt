use Rattle.std.proofs.Common.{◌≡◌, false, sym, subst, Err, Result, rules}
use Rattle.tree.specs.Term.{term_of}
use Rattle.tree.specs.declared.expr.Expr.{Expr}
use Rattle.algo.specs.View.{algorithm_of}
use Rattle.subst.specs.declared.error.SubstError.{SubstError}
use Rattle.subst.specs.PutIn.{PutsIn}
use Rattle.subst.proofs.Whole.{calls_are, is_refused}
use Rattle.subst.proofs.put_in.Goals as goal

pub returns-in_err-put : goal.returns-in_err-put
returns-in_err-put c =
    let a = algorithm_of c.args.algo.now in
    let stored = c.args.stored.now in
    let e = term_of c.args.expr.now in
    let entries = c.funcs.result.now.entries in
    let kept = c.in_ok-bodies.bodies.items in
    let none = calls_are a stored entries kept c.deref.result.now c.funcs.ensures c.in_ok-bodies.ensures c.deref.ensures.value e c.calls_updates.result false c.calls_updates.ensures c.if-calls_updates.false in
    let refused = is_refused a stored entries kept c.deref-2.result.now c.funcs.ensures c.in_ok-bodies.ensures c.deref-2.ensures.value e c.in_err-put.field-0.0 none c.in_err-put.ensures in
    let same : c.from_residual-in_err-put.result ≡ Err c.in_err-put.field-0.0 = search rules in
    subst (λ (r : Result Expr SubstError). PutsIn a stored e r) (sym same) refused
