use Rattle.std.proofs.Common.{List, sym, ap, ◌∙◌}
use Rattle.plan.specs.declared.stmt.Stmt.{Stmt}
use Rattle.plan.specs.Plan.{block}
use Rattle.plan.specs.Lists.{list_statements}
use Rattle.plan.specs.View.{statement_of}
use Rattle.plan.proofs.Rows.{statement_of-seq}
use Rattle.report.specs.Subject.{counted_of}
use Rattle.report.specs.Tally.{block_counts, some_counts}
use Rattle.report.proofs.Nothing.{counts_here}
use Rattle.report.proofs.subject.+counts.Goals as goal

pub counts-returns-in-Seq : goal.counts-returns-in-Seq
counts-returns-in-Seq t c =
    let x = counted_of c.args.subject.now in
    c.block_counts.ensures
    ∙ ap (λ (l : List Stmt). block_counts x (block (list_statements l))) c.deref.ensures.value
    ∙ ap (some_counts x) (sym (statement_of-seq c.in-Seq.all))
    ∙ ap (λ (a : Stmt). some_counts x (statement_of a)) (sym c.in-Seq.is)

pub block_counts-returns-then-counts : goal.block_counts-returns-then-counts
block_counts-returns-then-counts t c =
    counts_here (counted_of c.args.subject.now) c.args.all.now c.loop-stmt.stmt-index c.stmt-item.result _ c.loop-stmt-test.true c.stmt-item.is
    c.loop-stmt.invariant (sym c.counts.ensures ∙ c.if-counts.true)
