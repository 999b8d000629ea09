use Rattle.std.proofs.Common.{◌≡◌, ap, sym, ◌∙◌}
use Rattle.std.specs.Prelude.{string_bytes}
use Rattle.tree.specs.Term.{term_of, list_terms, indices, Call as CallTerm}
use Rattle.tree.proofs.Rows.{term_of-call}
use Rattle.meaning.proofs.Cases.{same_name_is}
use Rattle.meaning.proofs.sameness.+compare.Goals as goal

pub same_expr-returns-then-same_name : goal.same_expr-returns-then-same_name
same_expr-returns-then-same_name t c h =
    let test = same_name_is c.as_str-in-Call-second.result.now c.as_str-in-Call-second-2.result.now (sym c.same_name-in-Call-second.ensures ∙ c.if-same_name.true) in
    let name : string_bytes c.in-Call.name ≡ string_bytes c.in-Call-second.other = sym c.as_str-in-Call-second.ensures.value ∙ test ∙ c.as_str-in-Call-second-2.ensures.value in
    let row : list_terms c.in-Call.at.items ≡ list_terms c.in-Call-second.indices.items =
    ap list_terms (sym c.deref.ensures.value) ∙ c.same_row.ensures h ∙ ap list_terms c.deref-then-same_name.ensures.value in
    ap term_of c.in-Call.is ∙ term_of-call c.in-Call.name c.in-Call.at c.in-Call.span
    ∙ (λ i. CallTerm (name i) (indices (row i)))
    ∙ sym (term_of-call c.in-Call-second.other c.in-Call-second.indices c.in-Call-second.span) ∙ ap term_of (sym c.in-Call-second.is)
