use Rattle.std.proofs.Common.{◌≡◌, drop, map}
use Rattle.meaning.specs.Names.{bound}
use Rattle.plain.specs.Works.{bound_name, bound_number}
use Rattle.plain.proofs.scope.bound.Given as goal

abbrev pub invariant-loop-binding : goal.invariant-loop-binding
invariant-loop-binding l =
    bound (map bound_name l.bindings) (map bound_number l.bindings) l.name
    ≡ bound (map bound_name (drop l.binding-index l.bindings)) (map bound_number (drop l.binding-index l.bindings)) l.name
