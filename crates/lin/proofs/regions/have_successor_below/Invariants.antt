use Rattle.std.proofs.Common.{◌≡◌, take, false}
use Rattle.std.specs.List.{list_any}
use Rattle.lin.specs.Regions.{successor_at_most}
use Rattle.lin.proofs.regions.have_successor_below.Given as goal

abbrev pub invariant-loop-form : goal.invariant-loop-form
invariant-loop-form l = list_any (λ u. list_any (λ f. successor_at_most l.scope u f) l.others) (take l.form-index l.forms) ≡ false
