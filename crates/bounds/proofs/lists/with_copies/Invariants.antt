use Rattle.std.proofs.Common.{◌≡◌, drop}
use Rattle.std.specs.Prelude.{map, fold}
use Rattle.bounds.specs.Lists.{checked, with_made}
use Rattle.bounds.proofs.lists.with_copies.Given as goal

abbrev pub invariant-loop-form : goal.invariant-loop-form
invariant-loop-form l = fold with_made l.fn.known (map checked l.more) ≡ fold with_made l.list (map checked (drop l.form-index l.more))
