use Rattle.std.proofs.Common.{◌≡◌, take, true}
use Rattle.std.specs.List.{list_all}
use Rattle.lin.specs.Regions.{at_most_successor}
use Rattle.lin.proofs.regions.is_below_successors.Given as goal

abbrev pub invariant-loop-other : goal.invariant-loop-other
invariant-loop-other l = list_all (λ u. at_most_successor l.scope l.form u) (take l.other-index l.others) ≡ true
