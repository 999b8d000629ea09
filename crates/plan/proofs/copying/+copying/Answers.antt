use Rattle.std.proofs.Common.{ap, sym, ◌∙◌}
use Rattle.plan.specs.Plan.{Seq, block}
use Rattle.plan.specs.View.{statement_of}
use Rattle.plan.specs.Lists.{list_statements}
use Rattle.plan.proofs.Rows.{statement_of-seq}
use Rattle.plan.proofs.copying.+copying.Goals as goal

pub copy_stmt-returns-in_ok-copy_block-in-Seq : goal.copy_stmt-returns-in_ok-copy_block-in-Seq
copy_stmt-returns-in_ok-copy_block-in-Seq t c =
    statement_of-seq c.in_ok-copy_block-in-Seq.field-0
    ∙ ap (λ l. Seq (block l)) (c.in_ok-copy_block-in-Seq.ensures ∙ ap list_statements c.deref.ensures.value)
    ∙ sym (statement_of-seq c.in-Seq.all) ∙ ap statement_of (sym c.in-Seq.is)
