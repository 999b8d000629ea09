use Rattle.std.proofs.Common.{◌≡◌, ℕ, sym, subst}
use Rattle.std.specs.Prelude.{◌||◌, OnOk}
use Rattle.plan.specs.Plan.{Statement}
use Rattle.soundness.specs.Claims.{changes}
use Rattle.soundness.specs.Obligations.{is_member}
use Rattle.obligations.proofs.Blocks.{seq_is}
use Rattle.obligations.proofs.context.changes.+changing.Goals as goal

pub note_changes-returns-in-Seq : goal.note_changes-returns-in-Seq
note_changes-returns-in-Seq t c =
    subst (λ (a : Statement). OnOk c.note_all_changes.result ((b : ℕ) → is_member b c.note_all_changes.new.changed.items ≡ (is_member b c.args.changed.now.items || changes a b)))
    (sym (seq_is c.args.stmt.now c.in-Seq.all c.deref.result.now c.in-Seq.is c.deref.ensures.value)) c.note_all_changes.ensures
