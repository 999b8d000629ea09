use Rattle.std.proofs.Common.{refl}
use Rattle.claims.proofs.group.unmet_part.Goals as goal

pub invariant_of-plain : goal.invariant_of-plain
invariant_of-plain c = record { counted = λ f. refl }
