use Rattle.std.proofs.Common.{◌≡◌, drop}
use Rattle.std.specs.Prelude.{map, fold}
use Rattle.lin.specs.Search.{smaller, sup}
use Rattle.bounds.specs.Spans.{highest}
use Rattle.bounds.proofs.ends.highest.Given as goal

abbrev pub invariant-loop-form : goal.invariant-loop-form
invariant-loop-form l = highest l.scope l.uppers ≡ fold smaller l.least (map (λ f. sup l.scope f) (drop l.form-index l.uppers))
