use Rattle.std.proofs.Common.{◌≡◌, None, drop}
use Rattle.claims.specs.First.{least_from}
use Rattle.claims.proofs.least.least_of.Given as goal

abbrev pub invariant-loop-one : goal.invariant-loop-one
invariant-loop-one l = least_from None l.told ≡ least_from l.found (drop l.one-index l.told)
