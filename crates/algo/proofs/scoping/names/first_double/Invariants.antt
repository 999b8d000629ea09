use Rattle.std.proofs.Common.{map, take}
use Rattle.std.specs.Prelude.{string_bytes}
use Rattle.meaning.specs.Conditions.{AreDistinct}
use Rattle.algo.proofs.scoping.names.first_double.Given as goal

abbrev pub invariant-loop-i : goal.invariant-loop-i
invariant-loop-i l = AreDistinct (map string_bytes (take l.i l.names))
