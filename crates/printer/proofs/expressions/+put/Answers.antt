use Rattle.std.proofs.Common.{◌≡◌, ◌++◌, ap, sym, ◌∙◌, subst}
use Rattle.std.specs.Prelude.{OnOk}
use Rattle.tree.specs.Term.{term_of, list_terms, indices, Call}
use Rattle.tree.proofs.Rows.{term_of-call}
use Rattle.printer.specs.Tokens.{term_tokens}
use Rattle.printer.proofs.Rows.{row_more}
use Rattle.printer.proofs.expressions.+put.Goals as goal

pub put_term-returns-in-Call : goal.put_term-returns-in-Call
put_term-returns-in-Call t c =
    subst (λ e. OnOk c.put_call.result (c.put_call.new.tokens.items ≡ c.args.tokens.now.items ++ term_tokens e))
    ((λ i. Call (c.as_str-in-Call.ensures.value i) (indices (list_terms (c.deref.ensures.value i)))) ∙ sym (term_of-call c.in-Call.name c.in-Call.at c.in-Call.span) ∙ ap term_of (sym c.in-Call.is))
    c.put_call.ensures

pub put_row-loop-i-preserved : goal.put_row-loop-i-preserved
put_row-loop-i-preserved t c =
    row_more c.args.at.now c.loop-i.i c.index-at-i.result c.args.tokens.now.items c.loop-i.tokens.items c.put_comma.new.tokens.items c.put_term.new.tokens.items
    c.loop-i-test.true c.index-at-i.is c.loop-i.invariant c.in_ok-put_comma.ensures c.in_ok-put_term.ensures
