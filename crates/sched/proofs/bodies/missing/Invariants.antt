use Rattle.std.proofs.Common.{◌≡◌, ◌++◌, map, drop, string_bytes}
use Rattle.algo.specs.Parts.{change_of}
use Rattle.sched.specs.Skeleton.{missing_from}
use Rattle.sched.proofs.bodies.missing.Given as goal

abbrev pub invariant-loop-dimension : goal.invariant-loop-dimension
invariant-loop-dimension l = l.found.items ++ missing_from (change_of l.update) l.dimension (map string_bytes (drop l.dimension l.variables)) ≡ missing_from (change_of l.update) 0 (map string_bytes l.variables)
