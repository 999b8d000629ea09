use Rattle.std.proofs.Common.{◌≡◌, take, true}
use Rattle.std.specs.List.{list_all}
use Rattle.lin.specs.Regions.{at_most_successor}
use Rattle.lin.proofs.regions.are_below_successors.Given as goal

abbrev pub invariant-loop-form : goal.invariant-loop-form
invariant-loop-form l = list_all (λ f. list_all (λ u. at_most_successor l.scope f u) l.others) (take l.form-index l.forms) ≡ true
