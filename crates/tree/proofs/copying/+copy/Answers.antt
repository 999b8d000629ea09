use Rattle.std.proofs.Common.{ap, sym, ◌∙◌, ◌∷◌}
use Rattle.tree.specs.Term.{term_of, list_terms, indices, Call}
use Rattle.tree.specs.Place.{spans_of, list_spans}
use Rattle.tree.proofs.Rows.{term_of-call, spans_of-call, more_terms, more_spans}
use Rattle.tree.proofs.copying.+copy.Goals as goal

pub copy-returns-in_ok-copy_all-in-Call-clause-term : goal.copy-returns-in_ok-copy_all-in-Call-clause-term
copy-returns-in_ok-copy_all-in-Call-clause-term t c =
    let name = c.in_ok-clone-in-Call.ensures in
    let at = c.in_ok-copy_all-in-Call.ensures.terms in
    term_of-call c.in_ok-clone-in-Call.field-0 c.in_ok-copy_all-in-Call.field-0 c.in-Call.span
    ∙ (λ i. Call (name.cases i) (indices ((at ∙ ap list_terms c.deref.ensures.value) i)))
    ∙ sym (term_of-call c.in-Call.name c.in-Call.at c.in-Call.span) ∙ ap term_of (sym c.in-Call.is)

pub copy-returns-in_ok-copy_all-in-Call-clause-spans : goal.copy-returns-in_ok-copy_all-in-Call-clause-spans
copy-returns-in_ok-copy_all-in-Call-clause-spans t c =
    let at = c.in_ok-copy_all-in-Call.ensures.spans in
    spans_of-call c.in_ok-clone-in-Call.field-0 c.in_ok-copy_all-in-Call.field-0 c.in-Call.span
    ∙ (λ i. c.in-Call.span ∷ (at ∙ ap list_spans c.deref.ensures.value) i)
    ∙ sym (spans_of-call c.in-Call.name c.in-Call.at c.in-Call.span) ∙ ap spans_of (sym c.in-Call.is)

pub copy_all-loop-expr-preserved : goal.copy_all-loop-expr-preserved
copy_all-loop-expr-preserved t c =
    let made = c.loop-expr.copied.items in
    let pushed = c.in_ok-push.ensures.items in
    record {
      terms = ap list_terms pushed ∙ more_terms made c.args.at.now c.loop-expr.expr-index c.in_ok-copy.field-0 c.expr-item.result c.loop-expr-test.true c.expr-item.is c.in_ok-copy.ensures.term c.loop-expr.invariant.terms;
      spans = ap list_spans pushed ∙ more_spans made c.args.at.now c.loop-expr.expr-index c.in_ok-copy.field-0 c.expr-item.result c.loop-expr-test.true c.expr-item.is c.in_ok-copy.ensures.spans c.loop-expr.invariant.spans;
    }
