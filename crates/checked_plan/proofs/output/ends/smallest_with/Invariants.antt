use Rattle.std.proofs.Common.{◌≡◌, drop}
use Rattle.std.specs.Prelude.{fold}
use Rattle.std.specs.Int.{int_min}
use Rattle.checked_plan.proofs.Ends.{constants}
use Rattle.checked_plan.proofs.output.ends.smallest_with.Given as goal

-- the same comes of what is left
abbrev pub invariant-loop-form : goal.invariant-loop-form
invariant-loop-form l = fold int_min l.least (constants (drop l.form-index l.rest)) ≡ fold int_min l.first (constants l.rest)
