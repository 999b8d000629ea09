use Rattle.std.proofs.Common.{sym, ap, ◌∙◌}
use Rattle.plan.specs.Plan.{Statement}
use Rattle.soundness.specs.Claims.{writes}
use Rattle.soundness.specs.Outline.View.{outline_in}
use Rattle.obligations.proofs.Blocks.{seq_is}
use Rattle.obligations.proofs.context.changes.+writing.Goals as goal

pub only_writes-returns-in-Seq : goal.only_writes-returns-in-Seq
only_writes-returns-in-Seq t c =
    c.all_only_write.ensures
    ∙ ap (λ (a : Statement). writes (outline_in c.args.outlined.now).setting a c.args.buffer c.args.function.now) (sym (seq_is c.args.stmt.now c.in-Seq.all c.deref.result.now c.in-Seq.is c.deref.ensures.value))
