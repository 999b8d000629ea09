use Rattle.std.proofs.Common.{◌≡◌, take, false}
use Rattle.std.specs.List.{list_any}
use Rattle.lin.specs.Forms.{same_form}
use Rattle.bounds.proofs.lists.has_form.Given as goal

abbrev pub invariant-loop-known : goal.invariant-loop-known
invariant-loop-known l = list_any (λ f. same_form f l.form) (take l.known-index l.forms) ≡ false
