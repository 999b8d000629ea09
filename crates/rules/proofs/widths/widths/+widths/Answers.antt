use Rattle.std.proofs.Common.{rules, ◌≡◌, IfOk, map, ◌+◌, ◌<◌, length, false, Option, List, ℕ}
use Rattle.std.specs.List.{list_all}
use Rattle.plan.specs.Lists.{list_statements}
use Rattle.plan.specs.Plan.{block}
use Rattle.plan.specs.View.{coordinate_of, index_of, statement_of}
use Rattle.soundness.specs.Obligations.{Binder}
use Rattle.soundness.specs.Binders.View.{binders_of}
use Rattle.rules.specs.Widths.Widths.{first_told, is_i32, told, wide_lines, block_wide_lines, line_unless}
use Rattle.std.proofs.Common.{ap, sym, ◌∙◌, get_or, arith, refl, subst}
use Rattle.std.proofs.lemmas.List.{drop_all}
use Rattle.plan.specs.declared.stmt.Stmt.{Stmt}
use Rattle.plan.specs.Lines.{lines}
use Rattle.tree.specs.Term.{term_of}
use Rattle.plan.specs.Plan as Plan
use Rattle.plan.proofs.Rows.{statement_of-seq}
use Rattle.std.specs.Option.{is_some}
use Rattle.rules.proofs.Lists.{skip_ok, all_indices, found_none, later_told, wide_here, wide_later}
use Rattle.rules.proofs.widths.widths.+widths.Goals as goal

pub first_of_all-returns-then-is_some : goal.first_of_all-returns-then-is_some
first_of_all-returns-then-is_some g t c =
    λ n e.
    let inv = c.loop-stmt.invariant n e in
    let m = inv.0 in
    let R = g.B.Bounds.rules c.args.bounds.now in
    let bs = binders_of c.loop-stmt.inside.items in
    let x = c.stmt-item.result in
    let h : c.loop-stmt.stmt-index < length c.args.all.now = search in
    let is : x ≡ get_or c.args.all.now c.loop-stmt.stmt-index x = search in
    let first = c.in_ok-found.ensures m inv.1 ∙ ap (λ l. first_told (wide_lines R (binders_of l) m (statement_of x))) c.deref.ensures.value in
    wide_here R bs m c.args.all.now c.loop-stmt.stmt-index x c.in_ok-found.found _ h is inv.2 first c.if-is_some.ensures

pub first_of_all-loop-stmt-preserved : goal.first_of_all-loop-stmt-preserved
first_of_all-loop-stmt-preserved g t c =
    λ n e.
    let inv = c.loop-stmt.invariant n e in
    let m = inv.0 in
    let R = g.B.Bounds.rules c.args.bounds.now in
    let bs = binders_of c.loop-stmt.inside.items in
    let x = c.stmt-item.result in
    let h : c.loop-stmt.stmt-index < length c.args.all.now = search in
    let is : x ≡ get_or c.args.all.now c.loop-stmt.stmt-index x = search in
    let first = c.in_ok-found.ensures m inv.1 ∙ ap (λ l. first_told (wide_lines R (binders_of l) m (statement_of x))) c.deref.ensures.value in (
      m + lines (statement_of x),
      c.saturating_add-next.ensures ∙ later_told c.loop-stmt.next m c.line_count.result (lines (statement_of x)) inv.1 c.line_count.ensures,
      wide_later R bs _ m c.args.all.now c.loop-stmt.stmt-index x c.in_ok-found.found _ h is inv.2 first c.if-is_some.ensures c.in_ok-bind.ensures,
    )

pub first_wide_line-returns-in-Seq : goal.first_wide_line-returns-in-Seq
first_wide_line-returns-in-Seq g t c =
    λ n e.
    let R = g.B.Bounds.rules c.args.bounds.now in
    let bs = binders_of c.args.binders.now in
    let same : statement_of c.args.stmt.now ≡ Plan.Seq (block (list_statements c.deref.result.now)) =
    ap statement_of c.in-Seq.is ∙ statement_of-seq c.in-Seq.all ∙ ap (λ l. Plan.Seq (block (list_statements l))) (sym c.deref.ensures.value) in
    subst (λ x. IfOk c.first_of_all.result (λ o. o ≡ first_told (wide_lines R bs n x))) (sym same) (c.first_of_all.ensures n e)

pub first_wide_line-returns-else-is_some : goal.first_wide_line-returns-else-is_some
first_wide_line-returns-else-is_some g t c =
    λ n e.
    let R = g.B.Bounds.rules c.args.bounds.now in
    let bs = binders_of c.args.binders.now in
    let one : c.saturating_add.result ≡ told (n + 1) = omega (arith, e, c.saturating_add.ensures) in
    let found : c.in_ok-found-in-First.found ≡ first_told (wide_lines R bs (n + 1) (statement_of c.in-First.first.value)) = search rules in
    let nothing : false ≡ is_some c.in_ok-found-in-First.found = search rules in
    let none = found_none (wide_lines R bs (n + 1) (statement_of c.in-First.first.value)) c.in_ok-found-in-First.found found nothing in
    let later : c.saturating_add-line.result ≡ told (n + 2 + lines (statement_of c.in-First.first.value)) = search rules in
    let h = c.first_wide_line-in-First.ensures (n + 2 + lines (statement_of c.in-First.first.value)) later in
    let both = skip_ok _ _ _ none h in
    search rules

pub first_wide_line-returns-in_ok-small-in-Store : goal.first_wide_line-returns-in_ok-small-in-Store
first_wide_line-returns-in_ok-small-in-Store g t c =
    λ n e.
    let R = g.B.Bounds.rules c.args.bounds.now in
    let bs = binders_of c.args.binders.now in
    let small = c.in_ok-small-in-Store.ensures ∙ ap (λ l. list_all (λ x. is_i32 R bs (index_of x.index)) l) c.deref-in-Store.ensures.value in
    let same : statement_of c.args.stmt.now ≡ Plan.Store c.in-Store.buffer c.in-Store.definition (map coordinate_of c.in-Store.coordinates.items) (term_of c.in-Store.value) = search rules in
    c.unless-in-Store.ensures n e
    ∙ ap (λ b. first_told (line_unless b n)) (small ∙ all_indices (is_i32 R bs) c.in-Store.coordinates.items)
    ∙ sym (ap (λ x. first_told (wide_lines R bs n x)) same)
