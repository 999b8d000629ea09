use Rattle.std.proofs.Common.{refl}
use Rattle.plan.proofs.semantics.worked.worked_examples.Goals as goal

pub returns-clause-sum : goal.returns-clause-sum
returns-clause-sum c = refl

pub returns-clause-window : goal.returns-clause-window
returns-clause-window c = (refl, refl, refl, refl)

pub returns-clause-faults : goal.returns-clause-faults
returns-clause-faults c = (refl, refl, refl, refl)
