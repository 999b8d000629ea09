use Rattle.std.proofs.Common.{◌≡◌, [], drop}
use Rattle.regions.specs.Taken.{add_symbolic}
use Rattle.regions.proofs.fetching.symbolic.Given as goal

abbrev pub invariant-loop-form : goal.invariant-loop-form
invariant-loop-form l = add_symbolic l.kept (drop l.form-index l.forms) ≡ add_symbolic [] l.forms
