use Rattle.std.proofs.Common.{◌++◌, ap, sym, ◌∙◌, map, take, append_assoc, List, Result, Ok, Err, OnOk}
use Rattle.std.specs.Prelude.{string_bytes}
use Rattle.tree.specs.Term.{term_of, indices, list_terms}
use Rattle.tree.proofs.Rows.{term_of-call}
use Rattle.plain.specs.Sites.{Site, site_of, sites, sites_of_all, own_site}
use Rattle.plain.proofs.Standing.{sites-more}
use Rattle.plain.proofs.sites.+sites.Goals as goal

on_ok : {A E : Type 0} (r : Result A E) (P Q : Type 0) → (P → Q) → OnOk r P → OnOk r Q
on_ok (Ok x) P Q f h = f h
on_ok (Err e) P Q f h = h

pub add_sites-returns-in_ok-add_all-in-Call : goal.add_sites-returns-in_ok-add_all-in-Call
add_sites-returns-in_ok-add_all-in-Call t c =
    let input = c.args.input.now in
    let old = map site_of c.args.found.now.items in
    let at = c.in-Call.at in
    let whole = ap (λ e. sites input (term_of e)) c.in-Call.is ∙ ap (sites input) (term_of-call c.in-Call.name at c.in-Call.span) in
    on_ok c.add_own.result _ _ (λ h.
    h
    ∙ (λ i. c.in_ok-add_all-in-Call.ensures i ++ own_site input (record { name = c.as_str.ensures.value i; at = indices (list_terms (c.deref-in-Call.ensures.value i)) }))
    ∙ (λ i. (old ++ sites_of_all input (indices (list_terms (c.deref.ensures.value i)))) ++ own_site input (record { name = string_bytes c.in-Call.name; at = indices (list_terms at.items) }))
    ∙ append_assoc old (sites_of_all input (indices (list_terms at.items))) (own_site input (record { name = string_bytes c.in-Call.name; at = indices (list_terms at.items) }))
    ∙ ap (λ (l : List Site). old ++ l) (sym whole)) c.add_own.ensures

pub add_all-loop-expr-preserved : goal.add_all-loop-expr-preserved
add_all-loop-expr-preserved t c =
    let input = c.args.input.now in
    let more = sites-more input c.args.at.now c.loop-expr.expr-index c.expr-item.result c.loop-expr-test.true c.expr-item.is in
    let so_far = sites_of_all input (indices (list_terms (take c.loop-expr.expr-index c.args.at.now))) in
    c.in_ok-add_sites.ensures
    ∙ ap (λ (l : List Site). l ++ sites input (term_of c.expr-item.result)) c.loop-expr.invariant
    ∙ append_assoc (map site_of c.args.found.now.items) so_far (sites input (term_of c.expr-item.result))
    ∙ ap (λ (l : List Site). map site_of c.args.found.now.items ++ l) (sym more)
