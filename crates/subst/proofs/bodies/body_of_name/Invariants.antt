use Rattle.std.proofs.Common.{◌≡◌, take}
use Rattle.std.specs.Option.{option_copied}
use Rattle.subst.specs.Table.{found}
use Rattle.subst.proofs.bodies.body_of_name.Given as goal

abbrev pub invariant-loop-body : goal.invariant-loop-body
invariant-loop-body l = option_copied l.last ≡ found (take l.body-index l.bodies) l.name
