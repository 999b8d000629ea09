use Rattle.std.proofs.Common.{◌≡◌, ℕ}
use Rattle.std.specs.Prelude.{◌||◌}
use Rattle.plan.specs.Plan.{block}
use Rattle.plan.specs.Lists.{list_statements}
use Rattle.soundness.specs.Claims.{block_changes}
use Rattle.soundness.specs.Obligations.{is_member}
use Rattle.obligations.proofs.Blocks.{from}
use Rattle.obligations.proofs.context.changes.+changing.Given as goal

abbrev pub invariant-note_all_changes-loop-stmt : goal.invariant-note_all_changes-loop-stmt
invariant-note_all_changes-loop-stmt l =
    (b : ℕ) → (is_member b l.changed.items || block_changes (from l.all l.stmt-index) b) ≡ (is_member b l.initial.changed.items || block_changes (block (list_statements l.all)) b)
