use Rattle.std.proofs.Common.{◌≡◌, drop}
use Rattle.regions.specs.Taken.{least_from}
use Rattle.regions.proofs.fetching.least_from.Given as goal

abbrev pub invariant-loop-form : goal.invariant-loop-form
invariant-loop-form l = least_from (drop l.form-index l.forms) l.least ≡ least_from l.forms l.first
