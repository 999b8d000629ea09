use Rattle.std.proofs.Common.{take}
use Rattle.subst.specs.Table.{IsTableOf}
use Rattle.subst.proofs.bodies.bodies_of.Given as goal

abbrev pub invariant-loop-k : goal.invariant-loop-k
invariant-loop-k l = IsTableOf (take l.k l.functions.entries) l.stored l.bodies.items
