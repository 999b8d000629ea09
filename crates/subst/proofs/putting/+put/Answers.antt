use Rattle.std.proofs.Common.{◌≡◌, ap, sym, subst, ◌∙◌, List, Option, Some, None, Err, take, ◌+◌, rules}
use Rattle.std.specs.Option.{option_copied}
use Rattle.tree.specs.Term.{Term, Clamp, term_of, list_terms, indices}
use Rattle.tree.specs.Substitution.{with_calls, all_with_calls}
use Rattle.subst.specs.declared.built.Built.{Built}
use Rattle.subst.specs.Built.{Makes, MakesRow}
use Rattle.subst.specs.Filled.{AreHeld}
use Rattle.subst.specs.Table.{found, stands}
use Rattle.subst.proofs.Calls.{puts_call, refused_call, puts_body, refused_high, row_so_far, refused_index, refused_row, held_so_far}
use Rattle.subst.proofs.putting.+put.Goals as goal

pub put-returns-in_err-put_row-in-None : goal.put-returns-in_err-put_row-in-None
put-returns-in_err-put_row-in-None t c =
    let none : found c.args.bodies.now c.deref-in-Call.result.now ≡ None = sym c.body_of_name.ensures ∙ ap option_copied c.in-None.is in
    let refused = refused_call c.args.bodies.now c.args.expr.now c.in-Call.name c.in-Call.at c.in-Call.span c.deref-in-None-2.result.now c.deref-in-Call.result.now c.in_err-put_row-in-None.field-0.0
    c.in-Call.is c.deref-in-Call.ensures c.deref-in-None-2.ensures.value none c.in_err-put_row-in-None.ensures in
    let same : c.from_residual.result ≡ Err c.in_err-put_row-in-None.field-0.0 = search rules in
    subst (Makes (with_calls (stands c.args.bodies.now) (term_of c.args.expr.now))) (sym same) refused

pub put-returns-in_ok-put_row-in-None : goal.put-returns-in_ok-put_row-in-None
put-returns-in_ok-put_row-in-None t c =
    let none : found c.args.bodies.now c.deref-in-Call.result.now ≡ None = sym c.body_of_name.ensures ∙ ap option_copied c.in-None.is in
    puts_call c.args.bodies.now c.args.expr.now c.in-Call.name c.in-Call.at c.in-Call.span c.deref-in-None-2.result.now c.deref-in-Call.result.now c.deref-in-None.result.now c.in_ok-put_row-in-None.field-0 c.call.result
    c.in-Call.is c.deref-in-Call.ensures c.deref-in-None.ensures c.deref-in-None-2.ensures.value none c.in_ok-put_row-in-None.ensures c.call.ensures

pub put-returns-in_ok-put_each-in-Some : goal.put-returns-in_ok-put_each-in-Some
put-returns-in_ok-put_each-in-Some t c =
    let some : found c.args.bodies.now c.deref-in-Call.result.now ≡ Some c.in-Some.body.now = sym c.body_of_name.ensures ∙ ap option_copied c.in-Some.is in
    let held = subst (AreHeld (all_with_calls (stands c.args.bodies.now) (indices (list_terms c.deref-in-Some.result.now)))) (sym c.deref-in-Some-2.ensures.value) c.in_ok-put_each-in-Some.ensures in
    puts_body c.args.bodies.now c.args.expr.now c.in-Call.name c.in-Call.at c.in-Call.span c.deref-in-Some.result.now c.deref-in-Call.result.now c.in-Some.body.now c.deref-in-Some-2.result.now c.call_put_in.result
    c.in-Call.is c.deref-in-Call.ensures c.deref-in-Some.ensures.value c.requires some held c.call_put_in.ensures

pub put-returns-in_err-high-in-Clamp : goal.put-returns-in_err-high-in-Clamp
put-returns-in_err-high-in-Clamp t c =
    let whole = Clamp (term_of c.in-Clamp.value.value) (term_of c.in-Clamp.low.value) (term_of c.deref-in-Clamp-3.result.now) in
    let refused = refused_high c.args.bodies.now (term_of c.in-Clamp.value.value) (term_of c.in-Clamp.low.value) (term_of c.deref-in-Clamp-3.result.now) c.in_err-high-in-Clamp.field-0.0 c.in_err-high-in-Clamp.ensures in
    let term : whole ≡ term_of c.args.expr.now = search rules in
    let same : c.from_residual-in_err-high-in-Clamp.result ≡ Err c.in_err-high-in-Clamp.field-0.0 = search rules in
    subst (λ (x : Term). Makes (with_calls (stands c.args.bodies.now) x) c.from_residual-in_err-high-in-Clamp.result) term (subst (Makes (with_calls (stands c.args.bodies.now) whole)) (sym same) refused)

pub put_each-loop-index-preserved : goal.put_each-loop-index-preserved
put_each-loop-index-preserved t c =
    let pushed = c.in_ok-push.ensures.items in
    subst (λ (os : List (Option Built)). AreHeld (all_with_calls (stands c.args.bodies.now) (indices (list_terms (take (c.loop-index.index-index + 1) c.args.at.now)))) os) (sym pushed)
    (held_so_far c.args.bodies.now c.loop-index.held.items c.args.at.now c.loop-index.index-index c.index-item.result c.in_ok-built.built c.loop-index-test.true c.index-item.is
    c.in_ok-built.ensures c.loop-index.invariant)

pub put_row-returns-in_err-put : goal.put_row-returns-in_err-put
put_row-returns-in_err-put t c =
    let refused = refused_index c.args.bodies.now c.args.at.now c.loop-index.index-index c.index-item.result c.in_err-put.field-0.0 c.loop-index-test.true c.index-item.is c.in_err-put.ensures in
    let same : c.from_residual.result ≡ Err c.in_err-put.field-0.0 = search rules in
    subst (MakesRow (all_with_calls (stands c.args.bodies.now) (indices (list_terms c.args.at.now)))) (sym same) refused

pub put_row-returns-in_err-row : goal.put_row-returns-in_err-row
put_row-returns-in_err-row t c =
    let refused = refused_row c.args.bodies.now c.args.at.now c.loop-index.row.at.items c.loop-index.index-index c.index-item.result c.in_ok-put.field-0 c.in_err-row.field-0.0
    c.loop-index-test.true c.index-item.is c.in_ok-put.ensures c.loop-index.invariant c.in_err-row.ensures in
    let same : c.from_residual-in_err-row.result ≡ Err c.in_err-row.field-0.0 = search rules in
    subst (MakesRow (all_with_calls (stands c.args.bodies.now) (indices (list_terms c.args.at.now)))) (sym same) refused

pub put_row-loop-index-preserved : goal.put_row-loop-index-preserved
put_row-loop-index-preserved t c =
    row_so_far c.args.bodies.now c.args.at.now c.loop-index.row.at.items c.loop-index.index-index c.index-item.result c.in_ok-put.field-0 c.in_ok-row.row
    c.loop-index-test.true c.index-item.is c.in_ok-put.ensures c.loop-index.invariant c.in_ok-row.ensures
