use Rattle.std.proofs.Common.{◌≡◌, ◌++◌, map, drop, string_bytes}
use Rattle.algo.specs.Parts.{change_of}
use Rattle.sched.specs.Subjects.{scattered_from}
use Rattle.sched.proofs.subject.scattered.Given as goal

abbrev pub invariant-loop-dimension : goal.invariant-loop-dimension
invariant-loop-dimension l = l.found.items ++ scattered_from (map change_of l.updates) l.dimension (map string_bytes (drop l.dimension l.variables)) ≡ scattered_from (map change_of l.updates) 0 (map string_bytes l.variables)
