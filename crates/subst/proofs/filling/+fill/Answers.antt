use Rattle.std.proofs.Common.{◌≡◌, sym, subst, Err, rules, arith}
use Rattle.std.proofs.lemmas.Grind.{common_steps}
use Rattle.tree.specs.Term.{Term, Clamp, term_of, list_terms, indices}
use Rattle.subst.specs.Filled.{Fills, FillsRow}
use Rattle.subst.proofs.Fills.{fills_call, refused_call, refused_high, filled_more, refused_index, refused_row}
use Rattle.subst.proofs.filling.+fill.Goals as goal

pub fill-returns-in_ok-fill_row-in-Call : goal.fill-returns-in_ok-fill_row-in-Call
fill-returns-in_ok-fill_row-in-Call t c =
    fills_call c.args.names.now c.args.at.now c.args.expr.now c.in-Call.name c.in-Call.by c.in-Call.span c.deref-in-Call-2.result.now c.deref-in-Call.result.now c.in_ok-fill_row-in-Call.field-0 c.call.result
    c.in-Call.is c.deref-in-Call.ensures c.deref-in-Call-2.ensures.value c.in_ok-fill_row-in-Call.ensures c.call.ensures

pub fill-returns-in_err-fill_row-in-Call : goal.fill-returns-in_err-fill_row-in-Call
fill-returns-in_err-fill_row-in-Call t c =
    let refused = refused_call c.args.names.now c.args.at.now c.args.expr.now c.in-Call.name c.in-Call.by c.in-Call.span c.deref-in-Call-2.result.now c.in_err-fill_row-in-Call.field-0.0
    c.in-Call.is c.deref-in-Call-2.ensures.value c.in_err-fill_row-in-Call.ensures in
    let same : c.from_residual.result ≡ Err c.in_err-fill_row-in-Call.field-0.0 = search rules in
    subst (Fills c.args.names.now c.args.at.now (term_of c.args.expr.now)) (sym same) refused

pub fill-returns-in_err-high-in-Clamp : goal.fill-returns-in_err-high-in-Clamp
fill-returns-in_err-high-in-Clamp t c =
    let refused = refused_high c.args.names.now c.args.at.now (term_of c.in-Clamp.value.value) (term_of c.in-Clamp.low.value) (term_of c.deref-in-Clamp-3.result.now) c.in_err-high-in-Clamp.field-0.0
    c.in_err-high-in-Clamp.ensures in
    let term : Clamp (term_of c.in-Clamp.value.value) (term_of c.in-Clamp.low.value) (term_of c.deref-in-Clamp-3.result.now) ≡ term_of c.args.expr.now = search rules in
    let same : c.from_residual-in_err-high-in-Clamp.result ≡ Err c.in_err-high-in-Clamp.field-0.0 = search rules in
    subst (λ (x : Term). Fills c.args.names.now c.args.at.now x c.from_residual-in_err-high-in-Clamp.result) term (subst (Fills c.args.names.now c.args.at.now (Clamp (term_of c.in-Clamp.value.value) (term_of c.in-Clamp.low.value) (term_of c.deref-in-Clamp-3.result.now))) (sym same) refused)

pub fill_row-returns-in_err-fill : goal.fill_row-returns-in_err-fill
fill_row-returns-in_err-fill t c =
    let refused = refused_index c.args.names.now c.args.at.now c.args.by.now c.loop-index.index-index c.index-item.result c.in_err-fill.field-0.0 c.loop-index-test.true c.index-item.is c.in_err-fill.ensures in
    grind (arith, common_steps, refused)

pub fill_row-returns-in_err-row : goal.fill_row-returns-in_err-row
fill_row-returns-in_err-row t c =
    let refused = refused_row c.args.names.now c.args.at.now c.args.by.now c.loop-index.row.at.items c.loop-index.index-index c.index-item.result c.in_ok-fill.field-0 c.in_err-row.field-0.0
    c.loop-index-test.true c.index-item.is c.in_ok-fill.ensures c.loop-index.invariant c.in_err-row.ensures in
    let same : c.from_residual-in_err-row.result ≡ Err c.in_err-row.field-0.0 = search rules in
    subst (FillsRow c.args.names.now c.args.at.now (indices (list_terms c.args.by.now))) (sym same) refused

pub fill_row-loop-index-preserved : goal.fill_row-loop-index-preserved
fill_row-loop-index-preserved t c =
    filled_more c.args.names.now c.args.at.now c.args.by.now c.loop-index.row.at.items c.loop-index.index-index c.index-item.result c.in_ok-fill.field-0 c.in_ok-row.row
    c.loop-index-test.true c.index-item.is c.in_ok-fill.ensures c.loop-index.invariant c.in_ok-row.ensures
