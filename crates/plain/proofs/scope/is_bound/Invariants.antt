use Rattle.std.proofs.Common.{◌≡◌, drop, map}
use Rattle.meaning.specs.Names.{is_among}
use Rattle.plain.specs.Works.{bound_name}
use Rattle.plain.proofs.scope.is_bound.Given as goal

abbrev pub invariant-loop-binding : goal.invariant-loop-binding
invariant-loop-binding l = is_among (map bound_name l.bindings) l.name ≡ is_among (map bound_name (drop l.binding-index l.bindings)) l.name
