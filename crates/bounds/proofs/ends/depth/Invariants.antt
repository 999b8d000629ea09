use Rattle.std.proofs.Common.{◌≡◌, drop}
use Rattle.std.specs.Prelude.{map, fold, pos}
use Rattle.lin.specs.Forms.{number}
use Rattle.lin.specs.Search.{smaller, sup_of_difference}
use Rattle.bounds.specs.Spans.{depth}
use Rattle.bounds.proofs.ends.depth.Given as goal

abbrev pub invariant-loop-form : goal.invariant-loop-form
invariant-loop-form l = depth l.scope l.lowers ≡ fold smaller l.least (map (λ f. sup_of_difference l.scope (number (pos 0)) f) (drop l.form-index l.lowers))
