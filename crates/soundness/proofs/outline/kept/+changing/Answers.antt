use Rattle.std.proofs.Common.{ap, sym, ◌∙◌}
use Rattle.plan.specs.Plan.{block}
use Rattle.plan.specs.View.{statement_of}
use Rattle.plan.specs.Lists.{list_statements}
use Rattle.plan.proofs.Rows.{statement_of-seq}
use Rattle.soundness.specs.Claims.{changes, block_changes}
use Rattle.soundness.proofs.outline.kept.+changing.Goals as goal

pub changes-returns-in-Seq : goal.changes-returns-in-Seq
changes-returns-in-Seq t c =
    c.some_change.ensures
    ∙ ap (λ l. block_changes (block (list_statements l)) c.args.buffer) c.deref.ensures.value
    ∙ ap (λ s. changes s c.args.buffer) (sym (statement_of-seq c.in-Seq.all))
    ∙ ap (λ s. changes (statement_of s) c.args.buffer) (sym c.in-Seq.is)
