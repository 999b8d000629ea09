use Rattle.std.proofs.Common.{◌≡◌, ◌++◌, drop}
use Rattle.sched.proofs.nest.copied_forms.Given as goal

abbrev pub invariant-loop-form : goal.invariant-loop-form
invariant-loop-form l = l.copies.items ++ drop l.form-index l.forms ≡ l.forms
