use Rattle.std.proofs.Common.{◌≡◌, take, true}
use Rattle.std.specs.List.{list_all, list_any}
use Rattle.lin.specs.Search.{at_most}
use Rattle.lin.proofs.regions.are_above.Given as goal

abbrev pub invariant-loop-form : goal.invariant-loop-form
invariant-loop-form l = list_all (λ f. list_any (λ m. at_most l.scope m f) l.others) (take l.form-index l.forms) ≡ true
