use Rattle.std.proofs.Common.{◌≡◌, take, false}
use Rattle.std.specs.List.{list_any}
use Rattle.lin.specs.Search.{at_most}
use Rattle.lin.proofs.regions.is_below_one.Given as goal

abbrev pub invariant-loop-other : goal.invariant-loop-other
invariant-loop-other l = list_any (λ m. at_most l.scope l.form m) (take l.other-index l.others) ≡ false
