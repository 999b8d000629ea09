use Rattle.std.proofs.Common.{◌≡◌, take, map}
use Rattle.plan.proofs.copying.copy_forms.Given as goal

abbrev pub invariant-loop-form : goal.invariant-loop-form
invariant-loop-form l = l.copied ≡ take l.form-index l.form-items
