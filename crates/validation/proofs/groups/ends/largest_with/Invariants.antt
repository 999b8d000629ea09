use Rattle.std.proofs.Common.{◌≡◌, drop}
use Rattle.std.specs.Prelude.{fold}
use Rattle.std.specs.Int.{int_max}
use Rattle.validation.proofs.Ends.{constants}
use Rattle.validation.proofs.groups.ends.largest_with.Given as goal

-- the same comes of what is left
abbrev pub invariant-loop-form : goal.invariant-loop-form
invariant-loop-form l = fold int_max l.most (constants (drop l.form-index l.rest)) ≡ fold int_max l.first (constants l.rest)
