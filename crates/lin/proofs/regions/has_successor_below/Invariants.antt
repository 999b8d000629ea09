use Rattle.std.proofs.Common.{◌≡◌, take, false}
use Rattle.std.specs.List.{list_any}
use Rattle.lin.specs.Regions.{successor_at_most}
use Rattle.lin.proofs.regions.has_successor_below.Given as goal

abbrev pub invariant-loop-other : goal.invariant-loop-other
invariant-loop-other l = list_any (λ f. successor_at_most l.scope l.form f) (take l.other-index l.others) ≡ false
