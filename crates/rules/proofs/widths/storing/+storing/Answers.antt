use Rattle.std.proofs.Common.{◌≡◌, ◌+◌, ◌<◌, length, get_or, take, sym, ap, ◌∙◌, refl}
use Rattle.plan.specs.Lines.{block_lines}
use Rattle.plan.specs.Lists.{list_statements}
use Rattle.plan.specs.Plan.{block}
use Rattle.plan.specs.View.{statement_of}
use Rattle.plan.proofs.Rows.{statement_of-seq}
use Rattle.rules.specs.Widths.Widths.{block_store_lines, first_told, store_lines, told}
use Rattle.rules.proofs.Lists.{found_at, gone_on}
use Rattle.rules.proofs.widths.storing.+storing.Goals as goal

pub first_store-returns-in-Seq : goal.first_store-returns-in-Seq
first_store-returns-in-Seq t c =
    λ n e.
    c.first_store_of_all.ensures n e
    ∙ ap (λ l. first_told (block_store_lines n (block (list_statements l)))) c.deref.ensures.value
    ∙ ap (λ s. first_told (store_lines n s)) (sym (statement_of-seq c.in-Seq.all))
    ∙ ap (λ s. first_told (store_lines n (statement_of s))) (sym c.in-Seq.is)

pub first_store_of_all-returns-then-is_some : goal.first_store_of_all-returns-then-is_some
first_store_of_all-returns-then-is_some t c =
    λ n e.
    let inv = c.loop-stmt.invariant n e in
    let k = n + block_lines (block (list_statements (take c.loop-stmt.stmt-index c.args.all.now))) in
    let h : c.loop-stmt.stmt-index < length c.args.all.now = search in
    let is : c.stmt-item.result ≡ get_or c.args.all.now c.loop-stmt.stmt-index c.stmt-item.result = search in
    found_at store_lines block_store_lines (λ m. refl) (λ m x rest. refl) n c.args.all.now c.loop-stmt.stmt-index c.stmt-item.result c.first_store-found.result h is inv.1
    (c.first_store-found.ensures k inv.0) c.if-is_some.ensures

pub first_store_of_all-loop-stmt-preserved : goal.first_store_of_all-loop-stmt-preserved
first_store_of_all-loop-stmt-preserved t c =
    λ n e.
    let inv = c.loop-stmt.invariant n e in
    let k = n + block_lines (block (list_statements (take c.loop-stmt.stmt-index c.args.all.now))) in
    let h : c.loop-stmt.stmt-index < length c.args.all.now = search in
    let is : c.stmt-item.result ≡ get_or c.args.all.now c.loop-stmt.stmt-index c.stmt-item.result = search in
    gone_on store_lines block_store_lines (λ m. refl) (λ m x rest. refl) n c.loop-stmt.next c.args.all.now c.loop-stmt.stmt-index c.stmt-item.result c.line_count.result c.saturating_add-next.result
    c.first_store-found.result h is inv.0 inv.1 (c.first_store-found.ensures k inv.0) c.if-is_some.ensures c.line_count.ensures c.saturating_add-next.ensures
