use Rattle.std.proofs.Common.{◌≡◌, ◌-◌, ◌^◌, min, ap, sym, ◌∙◌}
use Rattle.plan.specs.Lines.{lines, block_lines}
use Rattle.plan.specs.Plan.{block}
use Rattle.plan.specs.View.{statement_of}
use Rattle.plan.specs.Lists.{list_statements}
use Rattle.plan.proofs.Rows.{statement_of-seq}
use Rattle.plan.proofs.+line_count.Goals as goal

pub stmt::Stmt::line_count-returns-in-Seq : goal.stmt::Stmt::line_count-returns-in-Seq
stmt::Stmt::line_count-returns-in-Seq t c =
    c.line_count_of_all.ensures
    ∙ ap (λ l. min (block_lines (block (list_statements l))) (2 ^ 32 - 1)) c.deref.ensures.value
    ∙ ap (λ s. min (lines s) (2 ^ 32 - 1)) (sym (statement_of-seq c.in-Seq.all))
    ∙ ap (λ s. min (lines (statement_of s)) (2 ^ 32 - 1)) (sym c.in-Seq.is)
