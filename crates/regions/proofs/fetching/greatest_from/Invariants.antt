use Rattle.std.proofs.Common.{◌≡◌, drop}
use Rattle.regions.specs.Taken.{greatest_from}
use Rattle.regions.proofs.fetching.greatest_from.Given as goal

abbrev pub invariant-loop-form : goal.invariant-loop-form
invariant-loop-form l = greatest_from (drop l.form-index l.forms) l.greatest ≡ greatest_from l.forms l.first
