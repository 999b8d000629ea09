use Rattle.std.proofs.Common.{◌≡◌, List, true, sym, ap, ◌∙◌}
use Rattle.std.specs.Prelude.{string_bytes}
use Rattle.tree.specs.Term.{indices, list_terms, term_of, Call as CallTerm}
use Rattle.tree.specs.declared.expr.Expr.{Expr}
use Rattle.tree.proofs.Rows.{term_of-call}
use Rattle.meaning.specs.Names.{same_name}
use Rattle.meaning.proofs.Cases.{same_name_is}
use Rattle.interpreter.specs.Codes.{term_in, terms_in}
use Rattle.interpreter.proofs.SameRegisters.{on_both}
use Rattle.interpreter.proofs.coding.+is_code_of.Goals as goal
use Rattle.interpreter.proofs.coding.+is_code_of.Goals.{is_code_of-then-same_name-2, is_code_of-else-same_name-2}

pub is_code_of-returns-then-means-clause-term : goal.is_code_of-returns-then-means-clause-term
is_code_of-returns-then-means-clause-term t c =
    let name = c.in-Call.name in
    let other = c.in-Call-expr.other in
    let all = c.in-Call-expr.all in
    let is_same : c.same_name-in-Call-expr.result ≡ true = elim c.if-same_name-2.branch [
      | is_code_of-then-same_name-2 w ↦ w.if-same_name-2.true
      | is_code_of-else-same_name-2 w ↦ sym w.value-is ∙ c.if-means.true
    ] in
    let named : same_name (string_bytes name) (string_bytes other) ≡ true =
    (λ i. same_name (sym c.as_str-in-Call-expr.ensures.value i) (sym c.as_str-in-Call-expr-2.ensures.value i)) ∙ sym c.same_name-in-Call-expr.ensures ∙ is_same in
    let names = same_name_is (string_bytes name) (string_bytes other) named in
    on_both c.are_codes_of.result (terms_in c.deref.result.now ≡ indices (list_terms c.deref-then-means.result.now)) (term_in c.args.code.now ≡ term_of c.args.expr.now)
    (λ same. ap term_in c.in-Call.is
    ∙ (λ i. CallTerm (names i) ((ap terms_in (sym c.deref.ensures) ∙ same ∙ ap (λ (l : List Expr). indices (list_terms l)) c.deref-then-means.ensures.value) i))
    ∙ sym (term_of-call other all c.in-Call-expr.span) ∙ ap term_of (sym c.in-Call-expr.is))
    c.are_codes_of.ensures.terms
