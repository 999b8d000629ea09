use Rattle.std.proofs.Common.{◌≡◌, drop}
use Rattle.std.specs.Prelude.{fold}
use Rattle.bounds.specs.Lists.{with_made, all_moved}
use Rattle.bounds.proofs.lists.with_moved.Given as goal

abbrev pub invariant-loop-form : goal.invariant-loop-form
invariant-loop-form l = fold with_made l.fn.known (all_moved l.scope l.upper l.forms l.others) ≡ fold with_made l.list (all_moved l.scope l.upper (drop l.form-index l.forms) l.others)
