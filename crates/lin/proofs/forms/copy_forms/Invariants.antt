use Rattle.std.proofs.Common.{◌≡◌, take}
use Rattle.lin.proofs.forms.copy_forms.Given as goal

abbrev pub invariant-loop-form : goal.invariant-loop-form
invariant-loop-form l = l.copy ≡ take l.form-index l.forms
