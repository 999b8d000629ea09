use Rattle.std.proofs.Common.{◌∙◌, ap, length}
use Rattle.std.proofs.Math.Logic.{∥∥₁_elim}
use Rattle.std.proofs.Math.Nat.{ℕ_set}
use Rattle.checked_plan.proofs.checked.Checked.pieces.Goals as goal

pub returns-clause-work : goal.returns-clause-work
returns-clause-work c = λ samples. ∥∥₁_elim c.args.self.now.lists (ℕ_set _ _) (λ lists. ap length c.as_slice.ensures.value ∙ (lists samples).count)
