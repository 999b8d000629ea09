use Rattle.std.proofs.Common.{◌≡◌, ◌++◌, ap, sym, ◌∙◌, subst}
use Rattle.std.specs.Prelude.{OnOk, string_bytes}
use Rattle.tree.specs.Term.{term_of, list_terms, indices, Call}
use Rattle.tree.proofs.Rows.{term_of-call}
use Rattle.spelling.specs.Terms.Spelling.{term_text}
use Rattle.spelling.proofs.Rows.{row_more}
use Rattle.spelling.proofs.terms.writing.+put.Goals as goal

pub put_term-returns-in-Call : goal.put_term-returns-in-Call
put_term-returns-in-Call t c =
    subst (λ e. OnOk c.put_call.result (string_bytes c.put_call.new.text ≡ string_bytes c.args.text.now ++ term_text e))
    ((λ i. Call (c.as_str-in-Call.ensures.value i) (indices (list_terms (c.deref.ensures.value i)))) ∙ sym (term_of-call c.in-Call.name c.in-Call.at c.in-Call.span) ∙ ap term_of (sym c.in-Call.is))
    c.put_call.ensures

pub put_row-loop-i-preserved : goal.put_row-loop-i-preserved
put_row-loop-i-preserved t c =
    row_more c.args.at.now c.loop-i.i c.index-at-i.result (string_bytes c.args.text.now) (string_bytes c.loop-i.text) (string_bytes c.put_behind.new.text) c.comma_before.result.now c.loop-i-test.true c.index-at-i.is c.loop-i.invariant c.comma_before.ensures c.in_ok-put_behind.ensures
